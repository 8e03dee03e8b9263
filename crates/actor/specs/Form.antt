-- The actor form in words: which values an author's or committer's line may have (docs/FORMAT.md, "Commits"). Assumes nothing.
use Rattle.std.specs.Prelude.{ℕ, ◌+◌, ◌-◌, ◌*◌, ◌<◌, ◌≤◌, ◌≡◌, true, List, [], ◌∷◌, ◌++◌, ◌⊎◌, length, get_or}
use Rattle.ground.specs.Scan.{free_of}

-- no byte is `<`, `>`, NUL or LF
pub record Plain (n : List ℕ) : Type 0 where
  pub no_left : free_of 60 n ≡ true
  pub no_right : free_of 62 n ≡ true
  pub no_nul : free_of 0 n ≡ true
  pub no_lf : free_of 10 n ≡ true

-- a name: one or more plain bytes, the first and the last of them no space
pub record NameForm (n : List ℕ) : Type 0 where
  pub some : 0 < length n
  pub plain : Plain n
  pub first : get_or n 0 0 ≡ 32 → ⊥
  pub last : get_or n (length n - 1) 0 ≡ 32 → ⊥

-- an address: one or more plain bytes, none of them a space
pub record AddressForm (a : List ℕ) : Type 0 where
  pub some : 0 < length a
  pub plain : Plain a
  pub no_space : free_of 32 a ≡ true

-- a time: one to ten digits
pub record TimeForm (d : List ℕ) : Type 0 where
  pub some : 0 < length d
  pub ten : length d ≤ 10
  pub digits : (i : ℕ) → i < length d → (48 ≤ get_or d i 0) × (get_or d i 0 ≤ 57)

-- a zone: `+` or `-`, hours from 00 to 14 and minutes from 00 to 59, in two digits each
pub record ZoneForm (z : List ℕ) : Type 0 where
  pub sign : ℕ
  pub a : ℕ
  pub b : ℕ
  pub c : ℕ
  pub d : ℕ
  pub whole : z ≡ sign ∷ (48 + a) ∷ (48 + b) ∷ (48 + c) ∷ (48 + d) ∷ []
  pub signs : (sign ≡ 43) ⊎ (sign ≡ 45)
  pub digits : (a ≤ 9) × (b ≤ 9) × (c ≤ 9) × (d ≤ 9)
  pub hours : a * 10 + b ≤ 14
  pub minutes : c * 10 + d ≤ 59

-- `NAME <ADDRESS> TIME ZONE`
pub record ActorForm (v : List ℕ) : Type 0 where
  pub name : List ℕ
  pub address : List ℕ
  pub time : List ℕ
  pub zone : List ℕ
  pub whole : v ≡ name ++ (32 ∷ 60 ∷ (address ++ (62 ∷ 32 ∷ (time ++ 32 ∷ zone))))
  pub named : NameForm name
  pub addressed : AddressForm address
  pub timed : TimeForm time
  pub zoned : ZoneForm zone
