-- A written mode reads back: its text, a space, and anything behind them. Assumes nothing.
use Prim.Native.Nat.{ℕ, ◌+◌, ◌-◌, ◌*◌, ◌/◌, ◌%◌, ◌<◌}
use mathlib.Core.Path.{◌≡◌, refl, ap, sym, ◌∙◌}
use mathlib.Core.Bool.{Bool, true, false, ◌&&◌, and-false}
use mathlib.Core.List.{List, [], ◌∷◌, ◌++◌}
use native.Mathlib.Omega.{arith}
use lib.Dec.{eqb, ltb}
use lib.ListN.{drop, length, get_or}
use borrow.Author.Tests.{eq-eqb, ne_eqb, le-leb, lt-ltb, eqb-true, eqb-false, ltb-true}
use Rattle.ground.specs.Basics.{pick}
use Rattle.mode.specs.Read.{octal_from, has_six, text_len, settle, read_mode}
use Rattle.mode_text.specs.Write.{six_digits, trimmed, write_mode}
use Rattle.mode.proofs.Laws.{text_six, text-count, rest_more, read_number}
use Rattle.std.specs.Prelude.{Some}
unfoldable pub use Rattle.mode_text.specs.Write.{again}

-- ---- the digits of a mode say it again

-- one digit that keeps the sum v within 16 bits
next : (sum d v : ℕ) (bs : List ℕ) → d < 8 → sum * 8 + d ≡ v → v < 0o200000 → octal_from sum ((48 + d) ∷ bs) ≡ octal_from v bs
unfolding octal_from
next sum d v bs h e k =
    simp (le-leb 48 (48 + d) (omega arith), le-leb (48 + d) 55 (omega arith))
    (ap (λ (x : ℕ). octal_from x bs) (omega arith))

-- the last five digits after the first, and all six
module _ (m : ℕ) (h : m < 0o200000) where
  five : octal_from (m / 0o100000) (drop 1 (six_digits m)) ≡ Some m
  unfolding octal_from
  five =
      next (m / 0o100000) (m / 0o10000 % 8) (m / 0o10000) (drop 2 (six_digits m)) (omega arith) (omega arith) (omega arith)
      ∙ next (m / 0o10000) (m / 0o1000 % 8) (m / 0o1000) (drop 3 (six_digits m)) (omega arith) (omega arith) (omega arith)
      ∙ next (m / 0o1000) (m / 0o100 % 8) (m / 0o100) (drop 4 (six_digits m)) (omega arith) (omega arith) (omega arith)
      ∙ next (m / 0o100) (m / 0o10 % 8) (m / 0o10) (drop 5 (six_digits m)) (omega arith) (omega arith) (omega arith)
      ∙ next (m / 0o10) (m % 8) m [] (omega arith) (omega arith) (omega arith)

  six : octal_from 0 (six_digits m) ≡ Some m
  six = next 0 (m / 0o100000 % 8) (m / 0o100000) (drop 1 (six_digits m)) (omega arith) (omega arith) (omega arith) ∙ five

-- the last five of a mode below 32768
zero_five : (n : ℕ) → n < 0o100000 → octal_from 0 (drop 1 (six_digits n)) ≡ Some n
zero_five n h =
    let z : 0 ≡ n / 0o100000 = omega arith in
    ap (λ (x : ℕ). octal_from x (drop 1 (six_digits n))) z ∙ five n (omega arith)

-- the highest bit is in none of them
low : (m n : ℕ) → m ≡ n + 0o100000 → m < 0o200000 → drop 1 (six_digits m) ≡ drop 1 (six_digits n)
low m n e h =
    let a : m / 0o10000 % 8 ≡ n / 0o10000 % 8 = omega arith in
    let b : m / 0o1000 % 8 ≡ n / 0o1000 % 8 = omega arith in
    let c : m / 0o100 % 8 ≡ n / 0o100 % 8 = omega arith in
    let d : m / 0o10 % 8 ≡ n / 0o10 % 8 = omega arith in
    let f : m % 8 ≡ n % 8 = omega arith in
    cc

-- ---- six bytes, the last a digit, and a space; five digits and a space

read_six : (a b c d e f : ℕ) (t : List ℕ) (v : ℕ) → octal_from 0 (a ∷ b ∷ c ∷ d ∷ e ∷ (48 + f) ∷ []) ≡ Some v
    → read_mode (a ∷ b ∷ c ∷ d ∷ e ∷ (48 + f) ∷ 32 ∷ t) ≡ Some (record { internal = settle v a }, 7)
unfolding has_six
read_six a b c d e f t v o =
    let i : List ℕ = a ∷ b ∷ c ∷ d ∷ e ∷ (48 + f) ∷ 32 ∷ t in
    let n : text_len i ≡ 6 = text_six i (simp (ne_eqb (48 + f) 32 (λ q. omega arith))) in
    read_number i (λ q. omega arith) 6 (sym n) (omega arith) v o ∙ ap ((λ y. Some ((record { internal = settle v a }), y))) (rest_more 6 (length i) (omega arith))

far : (x : ℕ) → eqb (48 + x) 32 ≡ false
far x = ne_eqb (48 + x) 32 (λ q. omega arith)

read_five : (a b c d e : ℕ) (t : List ℕ) (v : ℕ) → octal_from 0 ((48 + a) ∷ (48 + b) ∷ (48 + c) ∷ (48 + d) ∷ (48 + e) ∷ []) ≡ Some v
    → read_mode ((48 + a) ∷ (48 + b) ∷ (48 + c) ∷ (48 + d) ∷ (48 + e) ∷ 32 ∷ t) ≡ Some (record { internal = settle v (48 + a) }, 6)
unfolding has_six
read_five a b c d e t v o =
    let i : List ℕ = (48 + a) ∷ (48 + b) ∷ (48 + c) ∷ (48 + d) ∷ (48 + e) ∷ 32 ∷ t in
    let n : text_len i ≡ 5 = text-count i (and-false (eqb (get_or t 0 0) 32)) ∙ simp (far a, far b, far c, far d, far e) in
    read_number i (λ q. omega arith) 5 (sym n) (omega arith) v o ∙ ap ((λ y. Some ((record { internal = settle v (48 + a) }), y))) (rest_more 5 (length i) (omega arith))

-- ---- what is kept of the number

settle_other : (v a : ℕ) → (v ≡ 16384 → ⊥) → settle v a ≡ v
unfolding settle
settle_other v a h = simp (ne_eqb v 16384 h)

settle-first : (v a : ℕ) → (a ≡ 48 → ⊥) → settle v a ≡ v
unfolding settle
settle-first v a h = simp (ne_eqb a 48 h, and-false (eqb v 16384))

pub again-same : (m : ℕ) → (49152 < m → m < 53248 → ⊥) → again m ≡ m
unfolding again
again-same m h = go (ltb 49152 m) refl (ltb m 53248) refl
  where
    go : (p : Bool) → ltb 49152 m ≡ p → (q : Bool) → ltb m 53248 ≡ q → pick (p && q) (m - 32768) m ≡ m
    go true e true f = absurd (h (ltb-true _ _ e) (ltb-true _ _ f))
    go true e false f = refl
    go false e q f = refl

pub again_less : (m : ℕ) → 49152 < m → m < 53248 → again m ≡ m - 32768
unfolding again
again_less m h k = simp (lt-ltb 49152 m h, lt-ltb m 53248 k)

settle-padded : (m : ℕ) → m / 0o10000 ≡ 12 → settle (m - 0o100000) 48 ≡ again m
unfolding settle
settle-padded m h = go (eqb m 49152) refl
  where
    go : (p : Bool) → eqb m 49152 ≡ p → pick (eqb (m - 0o100000) 16384 && true) 49152 (m - 0o100000) ≡ again m
    go true e =
        let k : m ≡ 49152 = eqb-true m 49152 e in
        simp (eq-eqb (m - 0o100000) 16384 (omega arith)) (sym (again-same m (λ a b. omega arith) ∙ k))
    go false e =
        let k : m ≡ 49152 → ⊥ = eqb-false m 49152 e in
        simp (ne_eqb (m - 0o100000) 16384 (λ q. omega arith)) (sym (again_less m (omega arith) (omega arith)))

-- The text of every mode but 0, with a space and anything behind it, reads as `again` of the mode, and the rest begins behind the space.
pub written_reads : (m : ℕ) (t : List ℕ) → (m ≡ 0 → ⊥) → m < 0o200000
    → read_mode (write_mode m ++ 32 ∷ t) ≡ Some (record { internal = again m }, length (write_mode m) + 1)
unfolding write_mode trimmed
written_reads m t z h = go (eqb m 0) refl (eqb (48 + m / 0o10000 % 8) 52) refl (eqb (48 + m / 0o100000 % 8) 48) refl
  where
    text : Bool → Bool → Bool → List ℕ
    text p q r = pick p (48 ∷ []) (pick q (pick r (drop 1 (six_digits m)) (48 ∷ drop 1 (six_digits m))) (six_digits m))

    go : (p : Bool) → eqb m 0 ≡ p → (q : Bool) → eqb (48 + m / 0o10000 % 8) 52 ≡ q → (r : Bool) → eqb (48 + m / 0o100000 % 8) 48 ≡ r
        → read_mode (text p q r ++ 32 ∷ t) ≡ Some (record { internal = again m }, length (text p q r) + 1)
    go true e q f r g = absurd (z (eqb-true m 0 e))
    go false e false f r g =
        let x : 48 + m / 0o10000 % 8 ≡ 52 → ⊥ = eqb-false _ _ f in
        read_six _ _ _ _ _ (m % 8) t m (six m h)
        ∙ ap (λ (v : ℕ). Some (record { internal = v }, 7))
        (settle_other m _ (λ q. omega arith) ∙ sym (again-same m (λ a b. omega arith)))
    go false e true f true g =
        let x : 48 + m / 0o10000 % 8 ≡ 52 = eqb-true _ _ f in
        let y : 48 + m / 0o100000 % 8 ≡ 48 = eqb-true _ _ g in
        read_five (m / 0o10000 % 8) _ _ _ (m % 8) t m (zero_five m (omega arith))
        ∙ ap (λ (v : ℕ). Some (record { internal = v }, 6))
        (settle-first m _ (λ q. omega arith) ∙ sym (again-same m (λ a b. omega arith)))
    go false e true f false g =
        let x : 48 + m / 0o10000 % 8 ≡ 52 = eqb-true _ _ f in
        let w : 48 + m / 0o100000 % 8 ≡ 48 → ⊥ = eqb-false _ _ g in
        read_six 48 _ _ _ _ (m % 8) t (m - 0o100000)
        (next 0 0 0 (drop 1 (six_digits m)) (omega arith) (omega arith) (omega arith)
        ∙ ap (octal_from 0) (low m (m - 0o100000) (omega arith) h) ∙ zero_five (m - 0o100000) (omega arith))
        ∙ ap (λ (v : ℕ). Some (record { internal = v }, 7)) (settle-padded m (omega arith))
