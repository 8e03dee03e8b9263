-- Pieces of a list from a place on, and what words, ids and lines are as such pieces. Assumes nothing.
use Prim.Native.Nat.{ℕ, suc, ◌+◌, ◌-◌, ◌*◌, ◌<◌, ◌≤◌}
use mathlib.Core.Path.{◌≡◌, refl, ap, sym, ◌∙◌}
use mathlib.Core.Bool.{true, not}
use mathlib.Core.List.{List, [], ◌∷◌, ◌++◌, append_assoc}
use mathlib.Core.Logic.{◌⊎◌, inl, inr}
use native.Mathlib.Decide.{dec_lt}
use native.Mathlib.Numerals.{add-one}
use native.Mathlib.Omega.{arith}
use lib.ListN.{length, get_or, drop, length-drop, take-append-drop}
use lib.Seq.{drop-cons, drop-drop, take-add, take-append_seam, drop-append_seam, get_or-drop}
use lib.Dec.{eqb}
use borrow.Author.Tests.{eqb-true}
use Rattle.ground.specs.Basics.{part}
use Rattle.ground.specs.Scan.{count_to, place_from, same_bytes, free_of}
use Rattle.ground.proofs.Laws.{and_left, and_right, count-is, count_free, free-count, place-from, same_refl, same_true}
use Rattle.hex_digits.specs.Hex.{is_hex}
use Rattle.commit_line.specs.Line.{word_at, id_from, id_at, line_at}
use Rattle.commit_line.proofs.Laws.{word-is, word_fits, id-yes, id-fits, id-line-is, id-line-parts, line-value, line-parts}
use Rattle.grammar.specs.Grammar.{line, HexForm}
use Rattle.grammar.proofs.Laws.{part_length}
use Rattle.std.specs.Prelude.{Some}

-- ---- pieces

-- one number is below another or not
pub below : (a b : ℕ) → (a < b) ⊎ (b ≤ a)
below a b = elim (dec_lt a b) [ yes h ↦ inl h | no h ↦ inr (omega arith) ]

-- a list from a place on: up to a later place, and from there
pub piece : (s : List ℕ) (at e : ℕ) → at ≤ e → drop at s ≡ part at e s ++ drop e s
piece s at e p =
    let z : at + (e - at) ≡ e = omega arith in
    sym (take-append-drop (e - at) (drop at s)) ∙ rw (drop-drop (e - at) at s, z)

-- up to a later byte, that byte, and what follows
pub cut : (s : List ℕ) (at e : ℕ) → at ≤ e → e < length s → drop at s ≡ part at e s ++ get_or s e 0 ∷ drop (e + 1) s
cut s at e p q = piece s at e p ∙ rw (drop-cons s e 0 q, add-one e)

-- a part, cut at a byte within
pub cut-part : (s : List ℕ) (at m e : ℕ) → at ≤ m → m < e → e ≤ length s → part at e s ≡ part at m s ++ get_or s m 0 ∷ part (m + 1) e s
cut-part s at m e p q r =
    let x : e - at ≡ (m - at) + (e - m) = omega arith in
    let y : at + (m - at) ≡ m = omega arith in
    let z : e - m ≡ suc (e - (m + 1)) = omega arith in
    rw (x, take-add (m - at) (e - m) (drop at s), drop-drop (m - at) at s, y, drop-cons s m 0 (omega arith), z, add-one m)

pub part_none : (s : List ℕ) (at : ℕ) → part at at s ≡ []
part_none s at = let z : at - at ≡ 0 = omega arith in rw z

-- where p and then r stand at a place: r stands after p, p is the part there, and so much is inside
module _ (s : List ℕ) (at : ℕ) (p r : List ℕ) (e : drop at s ≡ p ++ r) where
  pub after : drop (at + length p) s ≡ r
  after = sym (drop-drop (length p) at s) ∙ rw e (drop-append_seam p r)

  pub part-is : part at (at + length p) s ≡ p
  part-is = let z : at + length p - at ≡ length p = omega arith in rw (z, e) (take-append_seam p r)

-- a byte at a place
module _ (s : List ℕ) (at x : ℕ) (r : List ℕ) (e : drop at s ≡ x ∷ r) where
  pub byte-is : get_or s at 0 ≡ x
  byte-is = let z : at + 0 ≡ at = omega arith in ap (λ (k : ℕ). get_or s k 0) (sym z) ∙ sym (get_or-drop at s 0 0) ∙ rw e

  pub byte_inside : at < length s
  byte_inside = omega (arith, ap length e, length-drop at s)

  pub byte-after : drop (at + 1) s ≡ r
  byte-after = after s at (x ∷ []) r e

-- ---- bytes free of one

pub free_left : (x : ℕ) (a b : List ℕ) → free_of x (a ++ b) ≡ true → free_of x a ≡ true
free_left x [] b e = refl
free_left x (y ∷ a) b e =
    rw (and_left (not (eqb y x)) (free_of x (a ++ b)) e) (free_left x a b (and_right (not (eqb y x)) (free_of x (a ++ b)) e))

pub free_right : (x : ℕ) (a b : List ℕ) → free_of x (a ++ b) ≡ true → free_of x b ≡ true
free_right x [] b e = e
free_right x (y ∷ a) b e = free_right x a b (and_right (not (eqb y x)) (free_of x (a ++ b)) e)

-- up to the next x: no x, and within the bytes x stands there
pub free_part : (x : ℕ) (s : List ℕ) (at e : ℕ) → e ≡ place_from x s at → free_of x (part at e s) ≡ true
unfolding place_from
free_part x s at e q = let z : e - at ≡ count_to x (drop at s) = omega arith in rw z (free-count x (drop at s))

pub place_is : (x : ℕ) (s : List ℕ) (at e : ℕ) → e ≡ place_from x s at → e < length s → get_or s e 0 ≡ x
unfolding place_from
place_is x s at e q p =
    rw q (sym (get_or-drop at s (count_to x (drop at s)) 0) ∙ count-is x (drop at s) (omega (arith, length-drop at s)))

-- after bytes without x, x is next
pub place_after : (x : ℕ) (s : List ℕ) (at : ℕ) (p r : List ℕ) → drop at s ≡ p ++ x ∷ r → free_of x p ≡ true → at + length p ≡ place_from x s at
unfolding place_from
place_after x s at p r e f = rw (e, count_free x p r f)

-- ---- a word and a space

pub word_read : (w s : List ℕ) (at : ℕ) → word_at w s at ≡ true → drop at s ≡ w ++ 32 ∷ drop (at + length w + 1) s
unfolding word_at
word_read w s at e =
    let k = word_fits w s at e in
    let g : get_or s (at + length w) 0 ≡ 32 =
    eqb-true (get_or s (at + length w) 0) 32 (and_left (eqb (get_or s (at + length w) 0) 32) (same_bytes (part at (at + length w) s) w) e) in
    let b : part at (at + length w) s ≡ w =
    same_true (part at (at + length w) s) w (and_right (eqb (get_or s (at + length w) 0) 32) (same_bytes (part at (at + length w) s) w) e) in
    cut s at (at + length w) (omega arith) k ∙ rw (g, b)

pub word_stands : (w s : List ℕ) (at : ℕ) (r : List ℕ) → drop at s ≡ w ++ 32 ∷ r → word_at w s at ≡ true
word_stands w s at r e =
    word-is w s at (byte-is s (at + length w) 32 r (after s at w (32 ∷ r) e)) ∙ rw (part-is s at w (32 ∷ r) e) (same_refl w)

-- ---- lines

-- a line and what follows it
pub line-onto : (w v r : List ℕ) → line w v ++ r ≡ w ++ 32 ∷ (v ++ 10 ∷ r)
line-onto w v r = append_assoc w (32 ∷ (v ++ 10 ∷ [])) r ∙ ap (λ (l : List ℕ). w ++ 32 ∷ l) (append_assoc v (10 ∷ []) r)

-- the line of an id: read, and standing
module _ (w : List ℕ) (h : ℕ) (s : List ℕ) (at : ℕ) where
  pub id-read : id_at w h s at ≡ true
      → (HexForm h (part (at + length w + 1) (at + length w + 1 + 2 * h) s))
      × (drop at s ≡ line w (part (at + length w + 1) (at + length w + 1 + 2 * h) s) ++ drop (at + length w + 1 + 2 * h + 1) s)
  unfolding id_from
  id-read e =
      let k = id-line-parts w h s at e in
      let from = at + length w + 1 in
      let d = part from (from + 2 * h) s in
      let i = id-fits h s from k.1 in
      let g : get_or s (from + 2 * h) 0 ≡ 10 = eqb-true (get_or s (from + 2 * h) 0) 10 (and_left (eqb (get_or s (from + 2 * h) 0) 10) (is_hex d) k.1) in
      let c = cut s from (from + 2 * h) (omega arith) i in (
        record {
          long = part_length s from (from + 2 * h) (omega arith) (omega arith) ∙ omega arith;
          hex = and_right (eqb (get_or s (from + 2 * h) 0) 10) (is_hex d) k.1;
        },
        word_read w s at k.0 ∙ ap (λ (l : List ℕ). w ++ 32 ∷ l) (rw g at c) ∙ sym (line-onto w d (drop (from + 2 * h + 1) s)),
      )

  pub id-stands : (d r : List ℕ) → HexForm h d → drop at s ≡ line w d ++ r → id_at w h s at ≡ true
  id-stands d r f e =
      let q = e ∙ line-onto w d r in
      let from = at + length w + 1 in
      let t : drop from s ≡ d ++ 10 ∷ r = byte-after s (at + length w) 32 (d ++ 10 ∷ r) (after s at w (32 ∷ (d ++ 10 ∷ r)) q) in
      let n : from + length d ≡ from + 2 * h = omega (arith, f.long) in
      let g : get_or s (from + 2 * h) 0 ≡ 10 = rw n at (byte-is s (from + length d) 10 r (after s from d (10 ∷ r) t)) in
      let p : part from (from + 2 * h) s ≡ d = rw n at (part-is s from d (10 ∷ r) t) in
      id-line-is w h s at (word_stands w s at (d ++ 10 ∷ r) q) ∙ id-yes h s from g ∙ rw p f.hex

-- the line of a value: read, and standing
module _ (w s : List ℕ) (at : ℕ) where
  pub value_read : (a e : ℕ) → line_at w s at ≡ Some (a, e) → (free_of 10 (part a e s) ≡ true) × (drop at s ≡ line w (part a e s) ++ drop (e + 1) s)
  value_read a e q =
      let k = line-parts w s at a e q in
      let j : e ≡ place_from 10 s a = k.2 ∙ ap (place_from 10 s) (sym k.1) in
      let c = cut s a e (omega (arith, j, place-from 10 s a)) k.3 in (
        free_part 10 s a e j,
        word_read w s at k.0
            ∙ ap (λ (l : List ℕ). w ++ 32 ∷ l) (ap (λ (i : ℕ). drop i s) (sym k.1) ∙ (rw (place_is 10 s a e j k.3) at c))
            ∙ sym (line-onto w (part a e s) (drop (e + 1) s)),
      )

  pub value-stands : (v r : List ℕ) → free_of 10 v ≡ true → drop at s ≡ line w v ++ r → line_at w s at ≡ Some (at + length w + 1, at + length w + 1 + length v)
  value-stands v r f e =
      let q = e ∙ line-onto w v r in
      let from = at + length w + 1 in
      let t : drop from s ≡ v ++ 10 ∷ r = byte-after s (at + length w) 32 (v ++ 10 ∷ r) (after s at w (32 ∷ (v ++ 10 ∷ r)) q) in
      line-value w s at (word_stands w s at (v ++ 10 ∷ r) q) (from + length v) (place_after 10 s from v r t f)
      (byte_inside s (from + length v) 10 r (after s from v (10 ∷ r) t))

-- a line that stands: its value, and what follows it
module _ (s : List ℕ) (at : ℕ) (w v r : List ℕ) (e : drop at s ≡ line w v ++ r) where
  value-onto : drop (at + length w + 1) s ≡ v ++ 10 ∷ r
  value-onto = byte-after s (at + length w) 32 (v ++ 10 ∷ r) (after s at w (32 ∷ (v ++ 10 ∷ r)) (e ∙ line-onto w v r))

  pub value-part : part (at + length w + 1) (at + length w + 1 + length v) s ≡ v
  value-part = part-is s (at + length w + 1) v (10 ∷ r) value-onto

  pub line_after : drop (at + length w + 1 + length v + 1) s ≡ r
  line_after = byte-after s (at + length w + 1 + length v) 10 r (after s (at + length w + 1) v (10 ∷ r) value-onto)
