-- Eight bytes as one number, the marks by which a byte is found among them, and the first byte that is not 0. Assumes nothing.
use Rattle.std.specs.Prelude.{ℕ, zero, suc, ◌+◌, ◌*◌, ◌<◌, ◌≡◌, List, [], ◌∷◌, eqb, length}
use Rattle.ground.specs.Basics.{pick}

-- the bytes as one number, the first lowest
unfoldable pub word : List ℕ → ℕ
word [] = 0
word (b ∷ bs) = word bs * 256 + b

-- each of them is a byte
unfoldable pub Bytes : List ℕ → Type 0
Bytes [] = Unit {0}
Bytes (b ∷ bs) = (b < 256) × Bytes bs

-- the number is made of these bytes
pub record WordOf (bs : List ℕ) (w : ℕ) : Type 0 where
  pub bytes : Bytes bs
  pub value : w ≡ word bs

-- 128 in the place of each byte that is x, and 0 in that of any other
unfoldable pub marks_of : ℕ → List ℕ → List ℕ
marks_of x [] = []
marks_of x (b ∷ bs) = pick (eqb b x) 128 0 ∷ marks_of x bs

-- how many bytes stand before the first that is not 0: all of them where there is none
unfoldable pub zeros : List ℕ → ℕ
zeros [] = 0
zeros (zero ∷ bs) = suc (zeros bs)
zeros (suc b ∷ bs) = 0

-- the word m has the marks of those of the eight bytes of w that are 0
abbrev pub Marked : ℕ → ℕ → Type 0
Marked w m = (bs : List ℕ) → length bs ≡ 8 → WordOf bs w → WordOf (marks_of 0 bs) m

-- the first of the eight bytes of m that is not 0 stands at r, where there is one
abbrev pub FirstAt : ℕ → ℕ → Type 0
FirstAt m r = (bs : List ℕ) → length bs ≡ 8 → WordOf bs m → (m ≡ 0 → ⊥) → r ≡ zeros bs
