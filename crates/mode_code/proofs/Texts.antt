-- The five written texts, told by four bytes at a time: a text stands at a place where two numbers are the text's. Assumes nothing.
use native.Mathlib.Numerals.{add-one}
use native.Mathlib.Omega.{arith}
use Prim.Native.Nat.{ℕ, ◌+◌, ◌*◌, ◌<◌, ◌≤◌}
use mathlib.Core.Path.{◌≡◌, refl, sym, ◌∙◌}
use mathlib.Core.Bool.{Bool, true, false, ◌&&◌, and-true}
use mathlib.Core.List.{List, [], ◌∷◌}
use lib.Dec.{eqb}
use lib.ListN.{length, get_or, take, drop}
use lib.Seq.{drop-cons}
use mir.Syntax.{w8}
use mir.Val.{Fits}
use borrow.Author.Tests.{eq-eqb, eqb-true, le-leb, lt-leb}
use Rattle.ground.specs.Basics.{pick}
use Rattle.ground.specs.Scan.{same_bytes}
use Rattle.ground.proofs.Laws.{and_left, and_right, is_false, same_test}
use Rattle.mode_table.specs.Table.{rows}
use Rattle.mode_code.specs.Code.{coded, code_in, quick_at}
use Rattle.mode_code.specs.Quad.{four, quad_at, six_of}

-- ---- four bytes are known by their number

-- each of the four is one
abbrev Bytes : ℕ → ℕ → ℕ → ℕ → Type 0
Bytes a b c d = (a < 256) × (b < 256) × (c < 256) × (d < 256)

module _ (a b c d w x y z : ℕ) (left : Bytes a b c d) (right : Bytes w x y z) where
  four-one : four a b c d ≡ four w x y z → (a ≡ w) × (b ≡ x) × (c ≡ y) × (d ≡ z)
  four-one e =
      let p : b + c * 256 + d * 65536 ≡ x + y * 256 + z * 65536 = omega arith in
      let q : c + d * 256 ≡ y + z * 256 = omega arith in
      let r : d ≡ z = omega arith in
      (omega arith, omega arith, omega arith, r)

  four_test : eqb (four a b c d) (four w x y z) ≡ (eqb a w && (eqb b x && (eqb c y && eqb d z)))
  four_test =
      same_test _ _
      (λ e. let p = four-one (eqb-true _ _ e) in rw (eq-eqb a w p.0, eq-eqb b x p.1, eq-eqb c y p.2, eq-eqb d z p.3))
      (λ e.
      let f = and_right (eqb a w) _ e in
      let g = and_right (eqb b x) _ f in
      let p : a ≡ w = eqb-true _ _ (and_left (eqb a w) _ e) in
      let q : b ≡ x = eqb-true _ _ (and_left (eqb b x) _ f) in
      let r : c ≡ y = eqb-true _ _ (and_left (eqb c y) _ g) in
      let t : d ≡ z = eqb-true _ _ (and_right (eqb c y) _ g) in
      eq-eqb (four a b c d) (four w x y z) (omega arith))

-- tests that overlap, taken together
six_tests : (a b c d e f g : Bool) → (a && (b && (c && (d && (e && (f && (g && true))))))) ≡ ((a && (b && (c && d))) && (d && (e && (f && g))))
six_tests false b c d e f g = refl
six_tests true false c d e f g = refl
six_tests true true false d e f g = refl
six_tests true true true false e f g = refl
six_tests true true true true false f g = refl
six_tests true true true true true false g = refl
six_tests true true true true true true g = and-true g

five_tests : (a b c d e f : Bool) → (a && (b && (c && (d && (e && (f && true)))))) ≡ ((a && (b && (c && d))) && (c && (d && (e && f))))
five_tests false b c d e f = refl
five_tests true false c d e f = refl
five_tests true true false d e f = refl
five_tests true true true false e f = refl
five_tests true true true true false f = refl
five_tests true true true true true f = and-true f

-- ---- the table by numbers

-- the code that the table gives three numbers of four bytes: those at the front, from the fourth on, and from the third on
abbrev told_by : ℕ → ℕ → ℕ → ℕ
told_by a b d = pick (eqb a 0x30303034 && eqb d 0x20303030) (coded 0o40000 6) (six_of a b)

apart : (a x b y : ℕ) → (a ≡ x → b ≡ y → ⊥) → (eqb a x && eqb b y) ≡ false
apart a x b y n = is_false _ (λ e. n (eqb-true a x (and_left (eqb a x) _ e)) (eqb-true b y (and_right (eqb a x) _ e)))

-- ---- the texts at a place

-- one byte more at the front
more : (s : List ℕ) (i j : ℕ) → i < length s → j ≡ i + 1 → drop i s ≡ get_or s i 0 ∷ drop j s
more s i j h e = drop-cons s i 0 h ∙ rw (e, add-one)

module _ (s : List ℕ) (at : ℕ) (h : at + 7 ≤ length s) (byte : (i : ℕ) → Fits w8 (get_or s i 0)) where
  seven :
      drop at s
      ≡ get_or s at 0
      ∷ get_or s (at + 1) 0
      ∷ get_or s (at + 2) 0
      ∷ get_or s (at + 3) 0
      ∷ get_or s (at + 4) 0
      ∷ get_or s (at + 5) 0
      ∷ get_or s (at + 6) 0
      ∷ drop (at + 7) s
  seven =
      rw (
        more s at (at + 1) (omega arith) refl,
        more s (at + 1) (at + 2) (omega arith) (omega arith),
        more s (at + 2) (at + 3) (omega arith) (omega arith),
        more s (at + 3) (at + 4) (omega arith) (omega arith),
        more s (at + 4) (at + 5) (omega arith) (omega arith),
        more s (at + 5) (at + 6) (omega arith) (omega arith),
        more s (at + 6) (at + 7) (omega arith) (omega arith),
      )

  small : (i : ℕ) → get_or s i 0 < 256
  small i = omega (arith, byte i)

  -- four bytes from a place on, by their number
  quad_test : (i w x y z : ℕ) → Bytes w x y z
      → eqb (quad_at s i) (four w x y z) ≡ (eqb (get_or s i 0) w && (eqb (get_or s (i + 1) 0) x && (eqb (get_or s (i + 2) 0) y && eqb (get_or s (i + 3) 0) z)))
  quad_test i w x y z k =
      four_test _ _ _ _ w x y z (small i, small (i + 1), small (i + 2), small (i + 3)) k

  -- six bytes and a space
  six_test : (a b c d e f : ℕ) → (a < 256) × (b < 256) × (c < 256) × (d < 256) × (e < 256) × (f < 256)
      → same_bytes (take 7 (drop at s)) (a ∷ b ∷ c ∷ d ∷ e ∷ f ∷ 32 ∷ []) ≡ (eqb (quad_at s at) (four a b c d) && eqb (quad_at s (at + 3)) (four d e f 32))
  six_test a b c d e f k =
      let p : at + 3 + 1 ≡ at + 4 = omega arith in
      let q : at + 3 + 2 ≡ at + 5 = omega arith in
      let r : at + 3 + 3 ≡ at + 6 = omega arith in
      rw (seven, quad_test at a b c d (omega arith), quad_test (at + 3) d e f 32 (omega arith), p, q, r)
      (six_tests (eqb (get_or s at 0) a) (eqb (get_or s (at + 1) 0) b) (eqb (get_or s (at + 2) 0) c) (eqb (get_or s (at + 3) 0) d)
      (eqb (get_or s (at + 4) 0) e) (eqb (get_or s (at + 5) 0) f) (eqb (get_or s (at + 6) 0) 32))

  -- five bytes and a space
  five_test : (a b c d e : ℕ) → (a < 256) × (b < 256) × (c < 256) × (d < 256) × (e < 256)
      → same_bytes (take 6 (drop at s)) (a ∷ b ∷ c ∷ d ∷ e ∷ 32 ∷ []) ≡ (eqb (quad_at s at) (four a b c d) && eqb (quad_at s (at + 2)) (four c d e 32))
  five_test a b c d e k =
      let p : at + 2 + 1 ≡ at + 3 = omega arith in
      let q : at + 2 + 2 ≡ at + 4 = omega arith in
      let r : at + 2 + 3 ≡ at + 5 = omega arith in
      rw (seven, quad_test at a b c d (omega arith), quad_test (at + 2) c d e 32 (omega arith), p, q, r)
      (five_tests (eqb (get_or s at 0) a) (eqb (get_or s (at + 1) 0) b) (eqb (get_or s (at + 2) 0) c) (eqb (get_or s (at + 3) 0) d)
      (eqb (get_or s (at + 4) 0) e) (eqb (get_or s (at + 5) 0) 32))

  -- the table's answer by the numbers
  quick_told : quick_at s at ≡ told_by (quad_at s at) (quad_at s (at + 3)) (quad_at s (at + 2))
  unfolding quick_at code_in rows six_of
  quick_told =
      rw (
        le-leb (at + 7) (length s) h,
        five_test 52 48 48 48 48 (omega arith),
        six_test 49 48 48 54 52 52 (omega arith),
        six_test 49 48 48 55 53 53 (omega arith),
        six_test 49 50 48 48 48 48 (omega arith),
        six_test 49 54 48 48 48 48 (omega arith),
      )

  -- ---- what the table says: a tree, none that begins as one, or what six digits say

  pub quick_tree : quad_at s at ≡ 0x30303034 → quad_at s (at + 2) ≡ 0x20303030 → quick_at s at ≡ coded 0o40000 6
  quick_tree e f = quick_told ∙ rw (e, f)

  pub quick_none : quad_at s at ≡ 0x30303034 → (quad_at s (at + 2) ≡ 0x20303030 → ⊥) → quick_at s at ≡ 0
  unfolding six_of
  quick_none e f = quick_told ∙ rw (apart _ _ _ _ (λ p q. f q), e)

  pub quick_six : (a b : ℕ) → a ≡ quad_at s at → b ≡ quad_at s (at + 3) → (a ≡ 0x30303034 → ⊥) → six_of a b ≡ quick_at s at
  quick_six a b p q n = rw (p, q) (sym (quick_told ∙ rw (apart _ _ _ _ (λ e f. n (p ∙ e)))))

-- fewer than seven bytes are left
pub quick_short : (s : List ℕ) (at : ℕ) → length s < at + 7 → quick_at s at ≡ 0
unfolding quick_at
quick_short s at h = rw (lt-leb (at + 7) (length s) h)
