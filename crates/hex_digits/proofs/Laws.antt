-- The table of all bytes, by its rule; and laws of hex digits, one for each way through a definition. Assumes nothing.
use Prim.Native.Nat.{ℕ, zero, suc, ◌+◌, ◌-◌, ◌<◌, ◌≤◌}
use native.Mathlib.Nat.{not-suc-le-zero, le_of_suc-le-suc}
use native.Mathlib.Numerals.{add-one}
use native.Mathlib.Omega.{arith}
use native.Mathlib.Decide.{dec_lt}
use mathlib.Core.Path.{◌≡◌, refl, ap, sym, ◌∙◌}
use mathlib.Core.Bool.{Bool, true, false, ◌&&◌}
use mathlib.Core.List.{List, [], ◌∷◌, map}
use lib.Bits.{bit_or, and_le_l, and_le_r, or_lt, or_add_and}
use lib.Dec.{eqb, ltb, leb}
use lib.ListN.{length, get_or, drop, drop_of_length-le}
use lib.Seq.{drop-cons}
use borrow.Author.Tests.{eq-eqb, ne_eqb, eqb-true, eqb-false, le-leb, lt-leb, leb-true, lt-ltb, le-ltb, ltb-true, ltb-false}
use Rattle.ground.specs.Basics.{pick}
use Rattle.ground.proofs.Laws.{and_left, and_right}
use Rattle.hex_digits.specs.Hex.{hex_value, is_hex, lower_digit, digit_of}

-- ---- the table

-- the values of so many bytes from b on
abbrev pub values_from : ℕ → ℕ → List ℕ
values_from zero b = []
values_from (suc n) b = hex_value b ∷ values_from n (b + 1)

value-at : (n b k : ℕ) → k < n → get_or (values_from n b) k 0 ≡ hex_value (b + k)
value-at zero b k p = absurd (not-suc-le-zero p)
value-at (suc n) b zero p = let z : b ≡ b + zero = omega arith in ap hex_value z
value-at (suc n) b (suc k) p = let z : b + 1 + k ≡ b + suc k = omega arith in value-at n (b + 1) k (le_of_suc-le-suc p) ∙ ap hex_value z

-- the values of all bytes have each byte's at its place
pub table_is : (b : ℕ) → b < 256 → get_or (values_from 256 0) b 0 ≡ hex_value b
table_is b p = let z : 0 + b ≡ b = omega arith in value-at 256 0 b p ∙ ap hex_value z

-- ---- hex digits, from a place on: one, another byte, the end

module _ (t : List ℕ) (i : ℕ) where
  pub hex-more : i < length t → (hex_value (get_or t i 0) ≡ 255 → ⊥) → is_hex (drop i t) ≡ is_hex (drop (i + 1) t)
  hex-more h e = rw (add-one i, drop-cons t i 0 h) (simp (ne_eqb (hex_value (get_or t i 0)) 255 e))

  pub hex-not : i < length t → hex_value (get_or t i 0) ≡ 255 → is_hex (drop i t) ≡ false
  hex-not h e = rw (drop-cons t i 0 h) (simp (eq-eqb (hex_value (get_or t i 0)) 255 e))

  pub hex_end : length t ≤ i → is_hex (drop i t) ≡ true
  hex_end h = rw (drop_of_length-le t {i = i} h)

-- ---- a digit in lower case

module _ (b : ℕ) where
  pub digit_low : b < 65 → lower_digit b ≡ b
  unfolding lower_digit
  digit_low p = simp (lt-leb 65 b p)

  pub digit_high : 70 < b → lower_digit b ≡ b
  unfolding lower_digit
  digit_high p = simp (le-leb 65 b (omega arith), lt-leb b 70 p)

  pub digit_letter : 65 ≤ b → b ≤ 70 → lower_digit b ≡ b + 32
  unfolding lower_digit
  digit_letter p q = simp (le-leb 65 b p, le-leb b 70 q)

-- ---- digits and their values

-- so many numbers from b on
abbrev count_from : ℕ → ℕ → List ℕ
count_from zero b = []
count_from (suc n) b = b ∷ count_from n (b + 1)

-- a digit by its number
abbrev digit_for : ℕ → ℕ
digit_for x = pick (ltb x 10) (48 + x) (87 + x)

digit_at : (n b k : ℕ) → k < n → get_or (map digit_for (count_from n b)) k 0 ≡ digit_for (b + k)
digit_at zero b k p = absurd (not-suc-le-zero p)
digit_at (suc n) b zero p = let z : b ≡ b + zero = omega arith in ap digit_for z
digit_at (suc n) b (suc k) p = let z : b + 1 + k ≡ b + suc k = omega arith in digit_at n (b + 1) k (le_of_suc-le-suc p) ∙ ap digit_for z

digit-is : (x : ℕ) → x < 16 → digit_of x ≡ digit_for x
unfolding digit_of
digit-is x p = let z : 0 + x ≡ x = omega arith in digit_at 16 0 x p ∙ ap digit_for z

value_low : (b : ℕ) → 48 ≤ b → b ≤ 57 → hex_value b ≡ b - 48
unfolding hex_value
value_low b p q = simp (le-leb 48 b p, le-leb b 57 q)

value_capital : (b : ℕ) → 65 ≤ b → b ≤ 70 → hex_value b ≡ b - 55
unfolding hex_value
value_capital b p q = simp (le-leb 48 b (omega arith), lt-leb b 57 (omega arith), le-leb 65 b p, le-leb b 70 q)

value_letter : (b : ℕ) → 97 ≤ b → b ≤ 102 → hex_value b ≡ b - 87
unfolding hex_value
value_letter b p q =
    simp (le-leb 48 b (omega arith), lt-leb b 57 (omega arith), le-leb 65 b (omega arith), lt-leb b 70 (omega arith), le-leb 97 b p, le-leb b 102 q)

-- the value of a number's digit is the number
pub digit_value : (x : ℕ) → x < 16 → hex_value (digit_of x) ≡ x
digit_value x p = ap hex_value (digit-is x p) ∙ go (ltb x 10) refl
  where
    go : (u : Bool) → ltb x 10 ≡ u → hex_value (pick u (48 + x) (87 + x)) ≡ x
    go true q = let l : x < 10 = ltb-true x 10 q in value_low (48 + x) (omega arith) (omega arith) ∙ omega arith
    go false q = let l : 10 ≤ x = ltb-false x 10 q in value_letter (87 + x) (omega arith) (omega arith) ∙ omega arith

-- a byte is a digit, a capital, a letter, or none of them
hex_cases : (b : ℕ) (P : ℕ → Type 0) → (48 ≤ b → b ≤ 57 → P (b - 48)) → (65 ≤ b → b ≤ 70 → P (b - 55)) → (97 ≤ b → b ≤ 102 → P (b - 87))
    → P 255 → P (hex_value b)
unfolding hex_value
hex_cases b P f g h n = go (leb 48 b && leb b 57) refl (leb 65 b && leb b 70) refl (leb 97 b && leb b 102) refl
  where
    first : (lo hi : ℕ) → (leb lo b && leb b hi) ≡ true → (lo ≤ b) × (b ≤ hi)
    first lo hi e = (leb-true lo b (and_left (leb lo b) (leb b hi) e), leb-true b hi (and_right (leb lo b) (leb b hi) e))

    go : (u : Bool) → (leb 48 b && leb b 57) ≡ u → (v : Bool) → (leb 65 b && leb b 70) ≡ v → (w : Bool) → (leb 97 b && leb b 102) ≡ w
        → P (pick u (b - 48) (pick v (b - 55) (pick w (b - 87) 255)))
    go true p v q w r = let i = first 48 57 p in f i.0 i.1
    go false p true q w r = let i = first 65 70 q in g i.0 i.1
    go false p false q true r = let i = first 97 102 r in h i.0 i.1
    go false p false q false r = n

-- a value that is not 255 is below 16
pub hex-small : (b : ℕ) → (hex_value b ≡ 255 → ⊥) → hex_value b < 16
hex-small b = hex_cases b (λ (x : ℕ). (x ≡ 255 → ⊥) → x < 16) (λ p q n. omega arith) (λ p q n. omega arith) (λ p q n. omega arith) (λ n. absurd (n refl))

-- the digit of a byte's value is the byte in lower case
pub value_digit : (b : ℕ) → (hex_value b ≡ 255 → ⊥) → digit_of (hex_value b) ≡ lower_digit b
value_digit b =
    hex_cases b (λ (x : ℕ). (x ≡ 255 → ⊥) → digit_of x ≡ lower_digit b)
    (λ p q n. digit-is (b - 48) (omega arith) ∙ low (b - 48) (omega arith) ∙ omega (arith, digit_low b (omega arith)))
    (λ p q n. digit-is (b - 55) (omega arith) ∙ high (b - 55) (omega arith) ∙ omega (arith, digit_letter b p q))
    (λ p q n. digit-is (b - 87) (omega arith) ∙ high (b - 87) (omega arith) ∙ omega (arith, digit_high b (omega arith)))
    (λ n. absurd (n refl))
  where
    low : (x : ℕ) → x < 10 → digit_for x ≡ 48 + x
    low x p = rw (lt-ltb x 10 p)

    high : (x : ℕ) → 10 ≤ x → digit_for x ≡ 87 + x
    high x p = rw (le-ltb x 10 p)

-- ---- values with all their bits together: below 16 as long as each is

or_below : (s v : ℕ) → v < 16 → ltb (bit_or s v) 16 ≡ ltb s 16
or_below s v p =
    elim (dec_lt s 16) [
      | yes h ↦ lt-ltb (bit_or s v) 16 (or_lt 4 s v h p) ∙ sym (lt-ltb s 16 h)
      | no h ↦ le-ltb (bit_or s v) 16 (omega (arith, or_add_and s v, and_le_r s v)) ∙ sym (le-ltb s 16 (omega arith))
    ]

or_above : (s v : ℕ) → 16 ≤ v → ltb (bit_or s v) 16 ≡ false
or_above s v p = le-ltb (bit_or s v) 16 (omega (arith, or_add_and s v, and_le_l s v))

-- one more value, and the end
module _ (t : List ℕ) (i s : ℕ) where
  pub hex-turn : (v : ℕ) → i < length t → v ≡ hex_value (get_or t i 0) → (ltb s 16 && is_hex (drop i t)) ≡ (ltb (bit_or s v) 16 && is_hex (drop (i + 1) t))
  hex-turn v p e = go (eqb v 255) refl
    where
      and-false : (u : Bool) → (u && false) ≡ false
      and-false true = refl
      and-false false = refl

      go : (u : Bool) → eqb v 255 ≡ u → (ltb s 16 && is_hex (drop i t)) ≡ (ltb (bit_or s v) 16 && is_hex (drop (i + 1) t))
      go true q =
          let h : v ≡ 255 = eqb-true v 255 q in
          rw (hex-not t i p (sym e ∙ h), or_above s v (omega arith)) (and-false (ltb s 16))
      go false q =
          let n : (hex_value (get_or t i 0) ≡ 255 → ⊥) = λ z. eqb-false v 255 q (e ∙ z) in
          let l : v < 16 = omega (arith, e, hex-small (get_or t i 0) n) in
          rw (hex-more t i p n, or_below s v l)

  pub hex-last : length t ≤ i → (ltb s 16 && is_hex (drop i t)) ≡ ltb s 16
  hex-last h = rw (hex_end t i h) (and-true (ltb s 16))
    where
      and-true : (u : Bool) → (u && true) ≡ u
      and-true true = refl
      and-true false = refl
