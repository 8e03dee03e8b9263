-- Laws of the lines that begin with a word, one for each way through a definition. Assumes nothing.
use Prim.Native.Nat.{ℕ, ◌+◌, ◌*◌, ◌<◌, ◌≤◌}
use mathlib.Core.Path.{◌≡◌, refl, sym, ◌∙◌}
use mathlib.Core.Bool.{Bool, true, false, true≢false}
use mathlib.Core.List.{List}
use native.Mathlib.Nat.{lt_of_not-le}
use native.Mathlib.Omega.{arith}
use lib.ListN.{length, get_or, get_or-eq_default}
use lib.Dec.{ltb}
use borrow.Author.Tests.{eq-eqb, ne_eqb, lt-ltb, le-ltb, ltb-true, ltb-false}
use Rattle.ground.specs.Basics.{part}
use Rattle.ground.specs.Scan.{place_from, same_bytes}
use Rattle.ground.proofs.Laws.{and_left, and_right, place-from}
use Rattle.hex_digits.specs.Hex.{is_hex}
use Rattle.commit_line.specs.Line.{word_at, id_from, id_at, line_from, line_at}
use Rattle.std.specs.Prelude.{None, Some}
use Rattle.ground.proofs.Pairs.{some_parts}

-- ---- a word and a space

module _ (w s : List ℕ) (at : ℕ) where
  pub word-no : (get_or s (at + length w) 0 ≡ 32 → ⊥) → word_at w s at ≡ false
  unfolding word_at
  word-no e = simp (ne_eqb (get_or s (at + length w) 0) 32 e)

  pub word-is : get_or s (at + length w) 0 ≡ 32 → word_at w s at ≡ same_bytes (part at (at + length w) s) w
  unfolding word_at
  word-is e = simp (eq-eqb (get_or s (at + length w) 0) 32 e)

  pub word-short : length s ≤ at + length w → word_at w s at ≡ false
  word-short h = word-no (λ e. let z : ◌≡◌ {A = ℕ} 0 32 = sym (get_or-eq_default s 0 h) ∙ e in omega arith)

  pub word_fits : word_at w s at ≡ true → at + length w < length s
  word_fits e = lt_of_not-le (λ h. true≢false (sym e ∙ word-short h))

-- ---- the line of an id

module _ (h : ℕ) (s : List ℕ) (from : ℕ) where
  pub id-not : (get_or s (from + 2 * h) 0 ≡ 10 → ⊥) → id_from h s from ≡ false
  unfolding id_from
  id-not e = simp (ne_eqb (get_or s (from + 2 * h) 0) 10 e)

  pub id-yes : get_or s (from + 2 * h) 0 ≡ 10 → id_from h s from ≡ is_hex (part from (from + 2 * h) s)
  unfolding id_from
  id-yes e = simp (eq-eqb (get_or s (from + 2 * h) 0) 10 e)

  pub id-short : length s ≤ from + 2 * h → id_from h s from ≡ false
  id-short k = id-not (λ e. let z : ◌≡◌ {A = ℕ} 0 10 = sym (get_or-eq_default s 0 k) ∙ e in omega arith)

  pub id-fits : id_from h s from ≡ true → from + 2 * h < length s
  id-fits e = lt_of_not-le (λ k. true≢false (sym e ∙ id-short k))

module _ (w : List ℕ) (h : ℕ) (s : List ℕ) (at : ℕ) where
  pub id-line-no : word_at w s at ≡ false → id_at w h s at ≡ false
  unfolding id_at
  id-line-no e = simp e

  pub id-line-is : word_at w s at ≡ true → id_at w h s at ≡ id_from h s (at + length w + 1)
  unfolding id_at
  id-line-is e = simp e

  -- a line that is there is there whole
  pub id-line-parts : id_at w h s at ≡ true → (word_at w s at ≡ true) × (id_from h s (at + length w + 1) ≡ true)
  unfolding id_at
  id-line-parts e = (and_left (word_at w s at) (id_from h s (at + length w + 1)) e, and_right (word_at w s at) (id_from h s (at + length w + 1)) e)

  pub id-line-fits : id_at w h s at ≡ true → at + length w + 2 + 2 * h ≤ length s
  id-line-fits e = omega (arith, id-fits h s (at + length w + 1) (id-line-parts e).1)

-- ---- the line of a value

module _ (w s : List ℕ) (at : ℕ) where
  pub line-no : word_at w s at ≡ false → line_at w s at ≡ None
  unfolding line_at
  line-no e = simp e

  module _ (e : word_at w s at ≡ true) (lf : ℕ) (q : lf ≡ place_from 10 s (at + length w + 1)) where
    pub line_open : length s ≤ lf → line_at w s at ≡ None
    unfolding line_at line_from
    line_open h = rw (e, ← q) (simp (le-ltb lf (length s) h))

    pub line-value : lf < length s → line_at w s at ≡ Some (at + length w + 1, lf)
    unfolding line_at line_from
    line-value h = rw (e, ← q) (simp (lt-ltb lf (length s) h))

-- what a value says of the bytes: its word is there, and its LF ends it
pub line-parts : (w s : List ℕ) (at a e : ℕ) → line_at w s at ≡ Some (a, e)
    → (word_at w s at ≡ true) × (a ≡ at + length w + 1) × (e ≡ place_from 10 s (at + length w + 1)) × (e < length s)
line-parts w s at a e v = go (place_from 10 s (at + length w + 1)) refl (word_at w s at) refl (ltb (place_from 10 s (at + length w + 1)) (length s)) refl
  where
    go : (lf : ℕ) → lf ≡ place_from 10 s (at + length w + 1) → (b : Bool) → word_at w s at ≡ b → (t : Bool) → ltb lf (length s) ≡ t
        → (word_at w s at ≡ true) × (a ≡ at + length w + 1) × (e ≡ place_from 10 s (at + length w + 1)) × (e < length s)
    go lf r false q t p = let z : ◌≡◌ {A = ℕ} 0 1 = cc (line-no w s at q) in absurd (omega arith)
    go lf r true q false p = let z : ◌≡◌ {A = ℕ} 0 1 = cc (line_open w s at q lf r (ltb-false lf (length s) p)) in absurd (omega arith)
    go lf r true q true p =
        let i = ltb-true lf (length s) p in
        let k = line-value w s at q lf r i in
        let w = some_parts (sym v ∙ k) in
        (q, w.0, w.1 ∙ r, omega (arith, w.1))

pub line-fits : (w s : List ℕ) (at a e : ℕ) → line_at w s at ≡ Some (a, e) → (a ≤ e) × (e < length s)
line-fits w s at a e v = let k = line-parts w s at a e v in (omega (arith, k, place-from 10 s (at + length w + 1)), k.3)
