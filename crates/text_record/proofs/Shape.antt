-- The shape of a record that is not refused: digits, word, id and tab, with no tab before that one; a name; NUL. Assumes nothing.
use Prim.Native.Nat.{ℕ, suc, ◌+◌, ◌-◌, ◌*◌, ◌<◌, ◌≤◌}
use native.Mathlib.Omega.{arith}
use native.Mathlib.Numerals.{add-one}
use mathlib.Core.Path.{◌≡◌, refl, ap, sym, ◌∙◌}
use mathlib.Core.Logic.{◌⊎◌, inl, inr, ⊎_elim}
use mathlib.Core.Bool.{Bool, true, false, false≢true, not, ◌&&◌, ◌||◌}
use mathlib.Core.List.{List, [], ◌∷◌, ◌++◌}
use lib.Dec.{eqb, leb}
use lib.ListN.{length, get_or, take, drop, length-drop, take-append-drop, get_or-eq_default}
use lib.Seq.{drop-cons, drop-drop, take-add}
use native.Mathlib.Decide.{dec_lt}
use borrow.Author.Tests.{eqb-true, eqb-false, ne_eqb, le-leb, lt-leb, leb-true}
use Rattle.ground.specs.Basics.{pick, ascii, part}
use Rattle.ground.specs.Scan.{free_of, count_to}
use Rattle.ground.proofs.Laws.{and_left, and_right, same_true, count-is, free-count}
use Rattle.hex_digits.specs.Hex.{hex_value, is_hex}
use Rattle.rules.specs.Rules.{is_text, modes_of, bare_number}
use Rattle.text_form.specs.Form.{between, within, all_within, all_octal, all_lower, begins, word_len, front_len, name_from}
use Rattle.text_record.specs.Record.{front_mode, pared, name_end, name_in, formed, said_number, text_number}
use Rattle.text_record.proofs.Laws.{formed-parts}

-- ---- bytes without a tab

pub free_both : (x : ℕ) (a b : List ℕ) → free_of x a ≡ true → free_of x b ≡ true → free_of x (a ++ b) ≡ true
free_both x [] b p q = q
free_both x (y ∷ a) b p q =
    rw (and_left (not (eqb y x)) (free_of x a) p) (free_both x a b (and_right (not (eqb y x)) (free_of x a) p) q)

within_free : (a b c d x : ℕ) → within a b c d x ≡ false → (t : List ℕ) → all_within a b c d t ≡ true → free_of x t ≡ true
unfolding all_within
within_free a b c d x n [] e = refl
within_free a b c d x n (y ∷ t) e = go (eqb y x) refl (within_free a b c d x n t (and_right (within a b c d y) (all_within a b c d t) e))
  where
    go : (v : Bool) → eqb y x ≡ v → free_of x t ≡ true → (not v && free_of x t) ≡ true
    go true p ih =
        absurd (false≢true (sym n ∙ ap (within a b c d) (sym (eqb-true y x p)) ∙ and_left (within a b c d y) (all_within a b c d t) e))
    go false p ih = ih

-- a byte between two
between_is : (a b x : ℕ) → between a b x ≡ true → (a ≤ x) × (x ≤ b)
unfolding between
between_is a b x e = (leb-true a x (and_left (leb a x) (leb x b) e), leb-true x b (and_right (leb a x) (leb x b) e))

or_is : (a b : Bool) → (a || b) ≡ true → (a ≡ true) ⊎ (b ≡ true)
or_is true b e = inl refl
or_is false b e = inr e

-- digits of an id in lower case are hex digits
low_value : (x : ℕ) → 48 ≤ x → x ≤ 57 → hex_value x ≡ x - 48
unfolding hex_value
low_value x p q = rw (le-leb 48 x p, le-leb x 57 q) refl

letter_value : (x : ℕ) → 97 ≤ x → x ≤ 102 → hex_value x ≡ x - 87
unfolding hex_value
letter_value x p q =
    rw (le-leb 48 x (omega arith), lt-leb x 57 (omega arith), le-leb 65 x (omega arith), lt-leb x 70 (omega arith), le-leb 97 x p, le-leb x 102 q) refl

lower-one : (x : ℕ) → within 48 57 97 102 x ≡ true → not (eqb (hex_value x) 255) ≡ true
unfolding within
lower-one x e =
    ⊎_elim
    (λ p. let w = between_is 48 57 x p in ap not (ne_eqb (hex_value x) 255 (λ z. omega (arith, low_value x w.0 w.1, w.0, w.1, z))))
    (λ p. let w = between_is 97 102 x p in ap not (ne_eqb (hex_value x) 255 (λ z. omega (arith, letter_value x w.0 w.1, w.0, w.1, z))))
    (or_is (between 48 57 x) (between 97 102 x) e)

pub lower-hex : (t : List ℕ) → all_lower t ≡ true → is_hex t ≡ true
unfolding all_within
lower-hex [] e = refl
lower-hex (x ∷ t) e =
    rw (lower-one x (and_left (within 48 57 97 102 x) (all_lower t) e)) (lower-hex t (and_right (within 48 57 97 102 x) (all_lower t) e))

-- ---- what stands before the id, and before the name

word_free : (c : List ℕ) → (word_len c ≡ 0 → ⊥) → free_of 9 (take (word_len c) c) ≡ true
unfolding word_len
word_free c = go (begins (ascii "blob ") c) refl (begins (ascii "tree ") c) refl (begins (ascii "commit ") c) refl
  where
    is : (t : List ℕ) → begins t c ≡ true → free_of 9 t ≡ true → free_of 9 (take (length t) c) ≡ true
    is t e f = rw (same_true (take (length t) c) t e) f

    go : (u : Bool) → begins (ascii "blob ") c ≡ u → (v : Bool) → begins (ascii "tree ") c ≡ v → (w : Bool) → begins (ascii "commit ") c ≡ w
        → (◌≡◌ {A = ℕ} (pick u 5 (pick v 5 (pick w 7 0))) 0 → ⊥) → free_of 9 (take (pick u 5 (pick v 5 (pick w 7 0))) c) ≡ true
    go true p v q w r n = is (ascii "blob ") p refl
    go false p true q w r n = is (ascii "tree ") q refl
    go false p false q true r n = is (ascii "commit ") r refl
    go false p false q false r n = absurd (n refl)

front_shape : (b : List ℕ) → (front_len b ≡ 0 → ⊥)
    → (get_or b 6 0 ≡ 32) × (all_octal (take 6 b) ≡ true) × (word_len (drop 7 b) ≡ 0 → ⊥) × (front_len b ≡ 7 + word_len (drop 7 b))
unfolding front_len
front_shape b = go (eqb (get_or b 6 0) 32) refl (all_octal (take 6 b)) refl (eqb (word_len (drop 7 b)) 0) refl
  where
    go : (u : Bool) → eqb (get_or b 6 0) 32 ≡ u → (v : Bool) → all_octal (take 6 b) ≡ v → (w : Bool) → eqb (word_len (drop 7 b)) 0 ≡ w
        → (pick u (pick v (pick w 0 (7 + word_len (drop 7 b))) 0) 0 ≡ 0 → ⊥)
        → (get_or b 6 0 ≡ 32) × (v ≡ true) × (word_len (drop 7 b) ≡ 0 → ⊥) × (pick u (pick v (pick w 0 (7 + word_len (drop 7 b))) 0) 0 ≡ 7 + word_len (drop 7 b))
    go true p true q true r n = absurd (n refl)
    go true p true q false r n = (eqb-true (get_or b 6 0) 32 p, refl, eqb-false (word_len (drop 7 b)) 0 r, refl)
    go true p false q w r n = absurd (n refl)
    go false p v q w r n = absurd (n refl)

-- the parts of what stands before the name
pub record Front (h : ℕ) (b : List ℕ) : Type 0 where
  pub few : h ≤ 32
  pub front : front_len b ≡ 0 → ⊥
  pub tab : get_or b (front_len b + 2 * h) 0 ≡ 9
  pub digits : all_lower (part (front_len b) (front_len b + 2 * h) b) ≡ true
  pub from : name_from h b ≡ front_len b + 2 * h + 1

name_shape : (h : ℕ) (b : List ℕ) → 0 < name_from h b → Front h b
unfolding name_from
name_shape h b =
    go (leb h 32) refl (eqb (front_len b) 0) refl (eqb (get_or b (front_len b + 2 * h) 0) 9) refl
    (all_lower (part (front_len b) (front_len b + 2 * h) b)) refl
  where
    go : (u : Bool) → leb h 32 ≡ u → (v : Bool) → eqb (front_len b) 0 ≡ v → (w : Bool) → eqb (get_or b (front_len b + 2 * h) 0) 9 ≡ w
        → (x : Bool) → all_lower (part (front_len b) (front_len b + 2 * h) b) ≡ x → 0 < pick u (pick v 0 (pick w (pick x (front_len b + 2 * h + 1) 0) 0)) 0
        → Front h b
    go true p true q w r x s n = absurd (omega arith)
    go true p false q false r x s n = absurd (omega arith)
    go true p false q true r false s n = absurd (omega arith)
    go true p false q true r true s n = record {
      few = leb-true h 32 p;
      front = eqb-false (front_len b) 0 q;
      tab = eqb-true (get_or b (front_len b + 2 * h) 0) 9 r;
      digits = s;
      from = rw (p, q, r, s) refl;
    }
    go false p v q w r x s n = absurd (omega arith)

octal-no : within 48 55 48 55 9 ≡ false
unfolding within between
octal-no = refl

lower-no : within 48 57 97 102 9 ≡ false
unfolding within between
lower-no = refl

module _ (h : ℕ) (b : List ℕ) (f : Front h b) where
  pub tab_inside : front_len b + 2 * h < length b
  tab_inside =
      elim (dec_lt (front_len b + 2 * h) (length b)) [
        | yes p ↦ p
        | no p ↦ (let z : length b ≤ front_len b + 2 * h = omega arith in absurd (omega (arith, sym (get_or-eq_default b 0 z) ∙ f.tab)))
      ]

  pub before_free : free_of 9 (take (front_len b + 2 * h) b) ≡ true
  before_free =
      let s = front_shape b f.front in
      let w : ℕ = word_len (drop 7 b) in
      let six : free_of 9 (take 6 b) ≡ true = within_free 48 55 48 55 9 octal-no (take 6 b) s.1 in
      let one : take 1 (drop 6 b) ≡ 32 ∷ [] = ap (take 1) (drop-cons b 6 0 (omega (arith, tab_inside, s.3)) ∙ ap (λ (x : ℕ). x ∷ drop 7 b) s.0) in
      let seven : free_of 9 (take (6 + 1) b) ≡ true = rw (take-add 6 1 b, one) (free_both 9 (take 6 b) (32 ∷ []) six refl) in
      let word : free_of 9 (take (7 + word_len (drop 7 b)) b) ≡ true =
      rw (take-add 7 (word_len (drop 7 b)) b) (free_both 9 (take 7 b) (take (word_len (drop 7 b)) (drop 7 b)) seven (word_free (drop 7 b) s.2)) in
      let front : free_of 9 (take (front_len b) b) ≡ true = rw s.3 word in
      let z : front_len b + 2 * h - front_len b ≡ 2 * h = omega arith in
      let id : free_of 9 (take (2 * h) (drop (front_len b) b)) ≡ true =
      within_free 48 57 97 102 9 lower-no _ (ap (λ (k : ℕ). all_lower (take k (drop (front_len b) b))) (sym z) ∙ f.digits) in
      rw (take-add (front_len b) (2 * h) b) (free_both 9 (take (front_len b) b) (take (2 * h) (drop (front_len b) b)) front id)

-- ---- a record that is not refused

pub record Shape (k h : ℕ) (b : List ℕ) : Type 0 where
  pub front : Front h b
  pub ends : name_end h b < length b
  pub from : name_from h b ≤ name_end h b
  pub mode : front_mode (modes_of k) b ≡ 0 → ⊥
  pub name : bare_number (name_in h b) ≡ 0
  pub free : free_of 0 (name_in h b) ≡ true
  pub laid : b ≡ take (front_len b + 2 * h) b ++ 9 ∷ (name_in h b ++ 0 ∷ drop (name_end h b + 1) b)

module _ (k h : ℕ) (b : List ℕ) where
  said-fine : (name : List ℕ) → said_number k b name ≡ 0 → (front_mode (modes_of k) b ≡ 0 → ⊥) × (bare_number name ≡ 0)
  unfolding said_number
  said-fine name = go (is_text (modes_of k) (pared (take 6 b))) (eqb (front_mode (modes_of k) b) 0) refl
    where
      go : (u v : Bool) → eqb (front_mode (modes_of k) b) 0 ≡ v → pick u (pick v 20 (bare_number name)) 5 ≡ 0
          → (front_mode (modes_of k) b ≡ 0 → ⊥) × (bare_number name ≡ 0)
      go true true p e = absurd (omega arith)
      go true false p e = (eqb-false (front_mode (modes_of k) b) 0 p, e)
      go false v p e = absurd (omega arith)

  text-fine : text_number k h b ≡ 0 → (formed h b ≡ true) × (said_number k b (name_in h b) ≡ 0)
  unfolding text_number
  text-fine = go (formed h b)
    where
      go : (u : Bool) → pick u (said_number k b (name_in h b)) 20 ≡ 0 → (u ≡ true) × (said_number k b (name_in h b) ≡ 0)
      go true e = (refl, e)
      go false e = absurd (omega arith)

  pub shape : text_number k h b ≡ 0 → Shape k h b
  unfolding name_end name_in
  shape e =
      let t = text-fine e in
      let p = formed-parts h b t.0 in
      let s = said-fine (name_in h b) t.1 in
      let f = name_shape h b p.0 in
      let i = tab_inside h b f in
      let d : List ℕ = drop (name_from h b) b in
      let n : ℕ = count_to 0 (drop (name_from h b) b) in
      let z : name_from h b + n - name_from h b ≡ count_to 0 (drop (name_from h b) b) = omega arith in
      let l : count_to 0 (drop (name_from h b) b) < length (drop (name_from h b) b) = omega (arith, p.1, length-drop (name_from h b) b) in
      let nul : drop (count_to 0 (drop (name_from h b) b)) (drop (name_from h b) b) ≡ 0 ∷ drop (suc (count_to 0 (drop (name_from h b) b))) (drop (name_from h b) b) =
      drop-cons (drop (name_from h b) b) (count_to 0 (drop (name_from h b) b)) 0 l ∙ ap (λ (x : ℕ). x ∷ drop (suc (count_to 0 (drop (name_from h b) b))) (drop (name_from h b) b)) (count-is 0 (drop (name_from h b) b) l) in
      let rest : drop (suc (count_to 0 (drop (name_from h b) b))) (drop (name_from h b) b) ≡ drop (name_from h b + count_to 0 (drop (name_from h b) b) + 1) b =
      drop-drop (suc (count_to 0 (drop (name_from h b) b))) (name_from h b) b
      ∙ ap (λ (k : ℕ). drop k b) (let y : name_from h b + suc (count_to 0 (drop (name_from h b) b)) ≡ name_from h b + count_to 0 (drop (name_from h b) b) + 1 = omega arith in y) in
      let from : drop (front_len b + 2 * h) b ≡ 9 ∷ drop (name_from h b) b =
      drop-cons b (front_len b + 2 * h) 0 i ∙ ap (λ (x : ℕ). x ∷ drop (suc (front_len b + 2 * h)) b) f.tab
      ∙ ap (λ (k : ℕ). 9 ∷ drop k b) (sym (f.from ∙ add-one (front_len b + 2 * h))) in
      let tail : drop (name_from h b) b ≡ take (name_from h b + n - name_from h b) (drop (name_from h b) b) ++ 0 ∷ drop (name_from h b + count_to 0 (drop (name_from h b) b) + 1) b =
      sym (take-append-drop (count_to 0 (drop (name_from h b) b)) (drop (name_from h b) b))
      ∙ rw z (ap (λ (r : List ℕ). take (count_to 0 (drop (name_from h b) b)) (drop (name_from h b) b) ++ r) (nul ∙ ap (λ (r : List ℕ). 0 ∷ r) rest)) in
      record {
        front = f;
        ends = p.1;
        from = omega arith;
        mode = s.0;
        name = s.1;
        free = ap (λ (k : ℕ). free_of 0 (take k (drop (name_from h b) b))) z ∙ free-count 0 (drop (name_from h b) b);
        laid = sym (take-append-drop (front_len b + 2 * h) b) ∙ ap (λ (r : List ℕ). take (front_len b + 2 * h) b ++ r) (from ∙ ap (λ (r : List ℕ). 9 ∷ r) tail);
      }
