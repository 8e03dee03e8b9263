-- Laws of the form of a record's front, one for each way through a definition. Assumes nothing.
use Prim.Native.Nat.{ℕ, ◌+◌, ◌-◌, ◌*◌, ◌<◌, ◌≤◌}
use native.Mathlib.Numerals.{add-one}
use native.Mathlib.Omega.{arith}
use mathlib.Core.Path.{◌≡◌, ap, sym, ◌∙◌}
use mathlib.Core.Bool.{Bool, true, false}
use mathlib.Core.List.{List}
use lib.Dec.{eqb, leb}
use lib.ListN.{length, get_or, take, drop, drop_of_length-le, get_or-eq_default}
use lib.Seq.{drop-cons}
use borrow.Author.Tests.{eq-eqb, ne_eqb, le-leb, lt-leb}
use Rattle.ground.specs.Basics.{pick, ascii, part}
use Rattle.ground.specs.Scan.{same_bytes}
use Rattle.ground.proofs.Laws.{part-from}
use Rattle.text_form.specs.Form.{between, within, all_within, all_octal, all_lower, begins, word_len, front_len, name_from}

module _ (a b x : ℕ) where
  pub between-low : x < a → between a b x ≡ false
  unfolding between
  between-low p = rw (lt-leb a x p)

  pub between-rest : a ≤ x → between a b x ≡ leb x b
  unfolding between
  between-rest p = rw (le-leb a x p)

module _ (a b c d x : ℕ) where
  pub within_first : between a b x ≡ true → within a b c d x ≡ true
  unfolding within
  within_first p = rw p

  pub within-second : between a b x ≡ false → within a b c d x ≡ between c d x
  unfolding within
  within-second p = rw p

module _ (a b c d : ℕ) (t : List ℕ) (i : ℕ) where
  pub all_end : length t ≤ i → all_within a b c d (drop i t) ≡ true
  unfolding all_within
  all_end p = rw (drop_of_length-le t {i = i} p)

  pub all_more : i < length t → within a b c d (get_or t i 0) ≡ true → all_within a b c d (drop i t) ≡ all_within a b c d (drop (i + 1) t)
  unfolding all_within
  all_more p w = rw (add-one i, drop-cons t i 0 p, w)

  pub all_not : i < length t → within a b c d (get_or t i 0) ≡ false → all_within a b c d (drop i t) ≡ false
  unfolding all_within
  all_not p w = rw (drop-cons t i 0 p, w)

module _ (b : List ℕ) where
  pub word-blob : begins (ascii "blob ") b ≡ true → word_len b ≡ 5
  unfolding word_len
  word-blob p = rw p

  pub word-tree : begins (ascii "blob ") b ≡ false → begins (ascii "tree ") b ≡ true → word_len b ≡ 5
  unfolding word_len
  word-tree p q = rw (p, q)

  pub word-commit : begins (ascii "blob ") b ≡ false → begins (ascii "tree ") b ≡ false → begins (ascii "commit ") b ≡ true → word_len b ≡ 7
  unfolding word_len
  word-commit p q r = rw (p, q, r)

  pub word_none : begins (ascii "blob ") b ≡ false → begins (ascii "tree ") b ≡ false → begins (ascii "commit ") b ≡ false → word_len b ≡ 0
  unfolding word_len
  word_none p q r = rw (p, q, r)

  pub word_le : word_len b ≤ 7
  unfolding word_len
  word_le = go (begins (ascii "blob ") b) (begins (ascii "tree ") b) (begins (ascii "commit ") b)
    where
      go : (u v w : Bool) → pick u 5 (pick v 5 (pick w 7 0)) ≤ 7
      go true v w = omega arith
      go false true w = omega arith
      go false false true = omega arith
      go false false false = omega arith

  pub front_no-space : (get_or b 6 0 ≡ 32 → ⊥) → front_len b ≡ 0
  unfolding front_len
  front_no-space p = rw (ne_eqb (get_or b 6 0) 32 p)

  pub front_short : length b ≤ 6 → front_len b ≡ 0
  front_short p = front_no-space (λ e. omega (arith, sym (get_or-eq_default b 0 p) ∙ e))

  pub front_no-digits : get_or b 6 0 ≡ 32 → all_octal (take 6 b) ≡ false → front_len b ≡ 0
  unfolding front_len
  front_no-digits p q = rw (eq-eqb (get_or b 6 0) 32 p, q)

  pub front_no-word : get_or b 6 0 ≡ 32 → all_octal (take 6 b) ≡ true → word_len (drop 7 b) ≡ 0 → front_len b ≡ 0
  unfolding front_len
  front_no-word p q r = rw (eq-eqb (get_or b 6 0) 32 p, q, eq-eqb (word_len (drop 7 b)) 0 r)

  pub front_whole : get_or b 6 0 ≡ 32 → all_octal (take 6 b) ≡ true → (word_len (drop 7 b) ≡ 0 → ⊥) → front_len b ≡ 7 + word_len (drop 7 b)
  unfolding front_len
  front_whole p q r = rw (eq-eqb (get_or b 6 0) 32 p, q, ne_eqb (word_len (drop 7 b)) 0 r)

pub front_le : (b : List ℕ) → front_len b ≤ 14
unfolding front_len
front_le b = go (eqb (get_or b 6 0) 32) (all_octal (take 6 b)) (eqb (word_len (drop 7 b)) 0)
  where
    go : (u v w : Bool) → pick u (pick v (pick w 0 (7 + word_len (drop 7 b))) 0) 0 ≤ 14
    go true true true = omega arith
    go true true false = omega (arith, word_le (drop 7 b))
    go true false w = omega arith
    go false v w = omega arith

module _ (h : ℕ) (b : List ℕ) where
  pub name-long : 32 < h → name_from h b ≡ 0
  unfolding name_from
  name-long p = rw (lt-leb h 32 p)

  module _ (l : h ≤ 32) where
    pub name-no_front : front_len b ≡ 0 → name_from h b ≡ 0
    unfolding name_from
    name-no_front p = rw (le-leb h 32 l, eq-eqb (front_len b) 0 p)

    module _ (f : front_len b ≡ 0 → ⊥) where
      pub name-no_tab : (get_or b (front_len b + 2 * h) 0 ≡ 9 → ⊥) → name_from h b ≡ 0
      unfolding name_from
      name-no_tab p = rw (le-leb h 32 l, ne_eqb (front_len b) 0 f, ne_eqb (get_or b (front_len b + 2 * h) 0) 9 p)

      pub name-short : length b ≤ front_len b + 2 * h → name_from h b ≡ 0
      name-short p = name-no_tab (λ e. omega (arith, sym (get_or-eq_default b 0 p) ∙ e))

      pub name-no-id : get_or b (front_len b + 2 * h) 0 ≡ 9 → all_lower (part (front_len b) (front_len b + 2 * h) b) ≡ false → name_from h b ≡ 0
      unfolding name_from
      name-no-id p q = rw (le-leb h 32 l, ne_eqb (front_len b) 0 f, eq-eqb (get_or b (front_len b + 2 * h) 0) 9 p, q)

      pub name-whole : get_or b (front_len b + 2 * h) 0 ≡ 9 → all_lower (part (front_len b) (front_len b + 2 * h) b) ≡ true → name_from h b ≡ front_len b + 2 * h + 1
      unfolding name_from
      name-whole p q = rw (le-leb h 32 l, ne_eqb (front_len b) 0 f, eq-eqb (get_or b (front_len b + 2 * h) 0) 9 p, q)

-- what the first bytes are compared with
pub begun : (t b : List ℕ) {r : List ℕ} {v w : Bool} → r ≡ take (length t) b → v ≡ same_bytes r t → v ≡ w → begins t b ≡ w
begun t b p q e = ap (λ (l : List ℕ). same_bytes l t) (sym p) ∙ sym q ∙ e

-- the same by what the leaves answer
module _ (b : List ℕ) {n : ℕ} (e : n ≡ word_len (take (length b - 7) (drop 7 b))) (p : get_or b 6 0 ≡ 32) (q : all_octal (take 6 b) ≡ true) where
  word-is : n ≡ word_len (drop 7 b)
  word-is = e ∙ ap word_len (part-from b 7)

  pub fronted_none : n ≡ 0 → 0 ≡ front_len b
  fronted_none z = sym (front_no-word b p q (sym word-is ∙ z))

  pub fronted : (n ≡ 0 → ⊥) → 7 + n ≡ front_len b
  fronted z = ap (λ (k : ℕ). 7 + k) word-is ∙ sym (front_whole b p q (λ y. z (word-is ∙ y)))

module _ (h : ℕ) (b : List ℕ) {id : ℕ} (e : id ≡ front_len b) (l : h ≤ 32) where
  pub named-no_front : id ≡ 0 → 0 ≡ name_from h b
  named-no_front z = sym (name-no_front h b l (sym e ∙ z))

  module _ (f : id ≡ 0 → ⊥) where
    pub named-short : length b ≤ id + 2 * h → 0 ≡ name_from h b
    named-short p = sym (name-short h b l (λ z. f (e ∙ z)) (omega arith))

    pub named-no_tab : (get_or b (id + 2 * h) 0 ≡ 9 → ⊥) → 0 ≡ name_from h b
    named-no_tab p = sym (name-no_tab h b l (λ z. f (e ∙ z)) (λ z. p (ap (λ (k : ℕ). get_or b (k + 2 * h) 0) e ∙ z)))

    tab_is : get_or b (id + 2 * h) 0 ≡ 9 → get_or b (front_len b + 2 * h) 0 ≡ 9
    tab_is p = ap (λ (k : ℕ). get_or b (k + 2 * h) 0) (sym e) ∙ p

    id-is : (v : Bool) → all_lower (part id (id + 2 * h) b) ≡ v → all_lower (part (front_len b) (front_len b + 2 * h) b) ≡ v
    id-is v q = ap (λ (k : ℕ). all_lower (part k (k + 2 * h) b)) (sym e) ∙ q

    pub named-no-id : get_or b (id + 2 * h) 0 ≡ 9 → all_lower (part id (id + 2 * h) b) ≡ false → 0 ≡ name_from h b
    named-no-id p q = sym (name-no-id h b l (λ z. f (e ∙ z)) (tab_is p) (id-is false q))

    pub named : get_or b (id + 2 * h) 0 ≡ 9 → all_lower (part id (id + 2 * h) b) ≡ true → id + 2 * h + 1 ≡ name_from h b
    named p q = ap (λ (k : ℕ). k + 2 * h + 1) e ∙ sym (name-whole h b l (λ z. f (e ∙ z)) (tab_is p) (id-is true q))
