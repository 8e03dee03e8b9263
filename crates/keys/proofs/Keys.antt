-- The laws of keys: elements by their keys are in a strict total order, whatever the keys are; a folder's key is its name in
-- Git's order; and where a key begins and ends. Assumes nothing.
use mathlib.Core.Path.{◌≡◌, refl, sym, ap, ◌∙◌}
use mathlib.Core.Logic.{◌⊎◌, inl, inr, ⊎_elim}
use mathlib.Core.Bool.{Bool, true, false, false≢true}
use mathlib.Core.List.{List, [], ◌∷◌, ◌++◌}
use native.Mathlib.Omega.{arith}
use Prim.Native.Nat.{ℕ, suc, ◌+◌, ◌-◌, ◌/◌, ◌%◌, ◌≤◌, ◌<◌}
use lib.Dec.{eqb, ltb}
use lib.ListN.{length, get_or, take, drop, length-append, length-take, length-drop, drop_of_length-le}
use lib.Seq.{take-append_seam, take_at, get_or-take, get_or-drop, drop-drop, drop-length, take_all}
use borrow.Author.Tests.{lt-ltb, le-ltb, ltb-true, ltb-false, eq-eqb, ne_eqb, eqb-true, eqb-false}
use Rattle.ground.specs.Basics.{pick}
use Rattle.ground.specs.Scan.{count_to, place_from, common_start, free_of}
use Rattle.ground.proofs.Laws.{count_free, equal, part-from, count-le, count_at, count-is, common_same, common_differ}
use Rattle.order.specs.Order.{by_number, then_by, opposite, next, name_order}
use Rattle.order.proofs.Laws.{by_lt, by_gt, by-eq, by-same, by-below, by_above, order_self, order_flip, order_trans, order_same, next-byte, decided_at}
use Rattle.keys.specs.Strict.{Strict}
use Rattle.keys.specs.Key.{past_mark, cut_to, name_at, folder, slash, key_at, decide, below_by, ended}
use Rattle.std.specs.declared.cmp.Ordering.{Ordering}
use Rattle.std.specs.declared.cmp.Ordering.TheVariants.{Equal, Greater, Less}

-- ---- keys in the order of their bytes

else_same : (p r : Ordering) → then_by p r ≡ Equal → (p ≡ Equal) × (r ≡ Equal)
else_same Less r h = let z : ◌≡◌ {A = ℕ} 0 1 = cc in absurd (omega arith)
else_same Equal r h = (refl, h)
else_same Greater r h = let z : ◌≡◌ {A = ℕ} 0 1 = cc in absurd (omega arith)

-- keys that compare Same are one
pub plain-same : (a b : List ℕ) → name_order a false b false ≡ Equal → a ≡ b
unfolding name_order next
plain-same [] [] h = refl
plain-same [] (y ∷ b) h = absurd (omega (arith, by-same h))
plain-same (x ∷ a) [] h = absurd (omega (arith, by-same h))
plain-same (x ∷ a) (y ∷ b) h =
    let e = else_same (by_number x y) (name_order a false b false) h in
    let i = plain-same a b e.1 in
    let j = by-same e.0 in
    cc

decide_true : (o : Ordering) (t : Bool) → decide o t ≡ true → (o ≡ Less) ⊎ ((o ≡ Equal) × (t ≡ true))
decide_true Less t h = inl refl
decide_true Equal t h = inr (refl, h)
decide_true Greater t h = absurd (false≢true h)

module _ (key : ℕ → List ℕ) where
  key_self : (x : ℕ) → below_by key x x ≡ false
  unfolding below_by
  key_self x = rw (order_self (key x) false) (le-ltb x x (omega arith))

  key_chain : (x y z : ℕ) → below_by key x y ≡ true → below_by key y z ≡ true → below_by key x z ≡ true
  unfolding below_by
  key_chain x y z p q =
      go (decide_true (name_order (key x) false (key y) false) (ltb x y) p) (decide_true (name_order (key y) false (key z) false) (ltb y z) q)
    where
      first : name_order (key x) false (key z) false ≡ Less → decide (name_order (key x) false (key z) false) (ltb x z) ≡ true
      first e = ap (λ (o : Ordering). decide o (ltb x z)) e

      go : (name_order (key x) false (key y) false ≡ Less) ⊎ ((name_order (key x) false (key y) false ≡ Equal) × (ltb x y ≡ true))
          → (name_order (key y) false (key z) false ≡ Less) ⊎ ((name_order (key y) false (key z) false ≡ Equal) × (ltb y z ≡ true))
          → decide (name_order (key x) false (key z) false) (ltb x z) ≡ true
      go (inl f) (inl g) = first (order_trans (key x) false (key y) false (key z) false f g)
      go (inl f) (inr g) = first (ap (λ (k : List ℕ). name_order (key x) false k false) (sym (plain-same (key y) (key z) g.0)) ∙ f)
      go (inr f) (inl g) = first (ap (λ (k : List ℕ). name_order k false (key z) false) (plain-same (key x) (key y) f.0) ∙ g)
      go (inr f) (inr g) =
          ap (λ (k : List ℕ). decide (name_order k false (key z) false) (ltb x z)) (plain-same (key x) (key y) f.0)
          ∙ ap (λ (o : Ordering). decide o (ltb x z)) g.0
          ∙ lt-ltb x z (omega (arith, ltb-true x y f.1, ltb-true y z g.1))

  key_one : (x y : ℕ) → below_by key x y ≡ false → below_by key y x ≡ false → x ≡ y
  unfolding below_by
  key_one x y p q = go (name_order (key x) false (key y) false) refl
    where
      back : (o : Ordering) → name_order (key x) false (key y) false ≡ o → decide (opposite o) (ltb y x) ≡ false
      back o e = ap (λ (o : Ordering). decide o (ltb y x)) (ap opposite (sym e) ∙ sym (order_flip (key x) false (key y) false)) ∙ q

      there : (o : Ordering) → name_order (key x) false (key y) false ≡ o → decide o (ltb x y) ≡ false
      there o e = ap (λ (o : Ordering). decide o (ltb x y)) (sym e) ∙ p

      go : (o : Ordering) → name_order (key x) false (key y) false ≡ o → x ≡ y
      go Less e = absurd (false≢true (sym (there Less e)))
      go Equal e = omega (arith, ltb-false x y (there Equal e), ltb-false y x (back Equal e))
      go Greater e = absurd (false≢true (sym (back Greater e)))

  -- elements by their keys, equal keys by the elements: a strict total order
  pub key_strict : Strict (below_by key)
  key_strict = record { self = key_self; chain = key_chain; one = key_one }

-- ---- a folder's key

by-suc : (x y : ℕ) → by_number (suc x) (suc y) ≡ by_number x y
by-suc x y = go (by_number x y) refl
  where
    go : (o : Ordering) → by_number x y ≡ o → by_number (suc x) (suc y) ≡ o
    go Less e = by_lt (omega (arith, by-below e))
    go Equal e = by-eq (ap suc (by-same e))
    go Greater e = by_gt (omega (arith, by_above e))

else_else : (p q r : Ordering) → then_by p (then_by q r) ≡ then_by (then_by p q) r
else_else Less q r = refl
else_else Equal q r = refl
else_else Greater q r = refl

none_order : (l : List ℕ) → name_order [] false l false ≡ by_number 0 (length l)
unfolding name_order next
none_order [] = refl
none_order (x ∷ l) = by_lt (omega arith) ∙ sym (by_lt (omega arith))

order_none : (l : List ℕ) → name_order l false [] false ≡ by_number (length l) 0
unfolding name_order next
order_none [] = refl
order_none (x ∷ l) = by_gt (omega arith) ∙ sym (by_gt (omega arith))

none-none : (s t : Bool) → name_order (slash s) false (slash t) false ≡ then_by (name_order [] s [] t) (by_number (length (slash s)) (length (slash t)))
unfolding name_order next by_number
none-none true true = refl
none-none true false = refl
none-none false true = refl
none-none false false = refl

below_else : (o r : Ordering) → o ≡ Less → o ≡ then_by o r
below_else o r e = e ∙ ap (λ (o : Ordering). then_by o r) (sym e)

above_else : (o r : Ordering) → o ≡ Greater → o ≡ then_by o r
above_else o r e = e ∙ ap (λ (o : Ordering). then_by o r) (sym e)

-- the keys' bytes compare as the names do in Git's order, and where those are Same by the keys' lengths
pub key_order : (a : List ℕ) (s : Bool) (b : List ℕ) (t : Bool)
    → name_order (a ++ slash s) false (b ++ slash t) false ≡ then_by (name_order a s b t) (by_number (length (a ++ slash s)) (length (b ++ slash t)))
unfolding name_order next
key_order [] s [] t = none-none s t
key_order [] false (y ∷ b) t = below_else (by_number 0 (suc y)) _ (by_lt (omega arith))
key_order [] true (y ∷ b) t =
    ap (λ (o : Ordering). then_by o (name_order [] false (b ++ slash t) false)) (sym (by-suc 47 y))
    ∙ ap (then_by (by_number 48 (suc y))) (none_order (b ++ slash t) ∙ sym (by-suc 0 (length (b ++ slash t))))
key_order (x ∷ a) s [] false = above_else (by_number (suc x) 0) _ (by_gt (omega arith))
key_order (x ∷ a) s [] true =
    ap (λ (o : Ordering). then_by o (name_order (a ++ slash s) false [] false)) (sym (by-suc x 47))
    ∙ ap (then_by (by_number (suc x) 48)) (order_none (a ++ slash s) ∙ sym (by-suc (length (a ++ slash s)) 0))
key_order (x ∷ a) s (y ∷ b) t =
    ap (then_by (by_number x y)) (key_order a s b t)
    ∙ else_else (by_number x y) (name_order a s b t) (by_number (length (a ++ slash s)) (length (b ++ slash t)))
    ∙ ap (then_by (then_by (by_number x y) (name_order a s b t))) (sym (by-suc (length (a ++ slash s)) (length (b ++ slash t))))

-- the keys of names without a slash compare as the names do
pub key_names : (a : List ℕ) (s : Bool) (b : List ℕ) (t : Bool) → free_of 47 a ≡ true → free_of 47 b ≡ true
    → name_order (a ++ slash s) false (b ++ slash t) false ≡ name_order a s b t
key_names a s b t p q = key_order a s b t ∙ go (name_order a s b t) refl
  where
    go : (o : Ordering) → name_order a s b t ≡ o → then_by o (by_number (length (a ++ slash s)) (length (b ++ slash t))) ≡ o
    go Less e = refl
    go Equal e = let w = order_same a s b t p q e in by-eq (rw (w.0, w.1) refl)
    go Greater e = refl

-- ---- two elements compared

module _ (text : List ℕ) (mark width : ℕ) where
  -- an element's key, from where its name begins
  key-is : (e a : ℕ) → drop a text ≡ past_mark mark (drop (e / 2) text) → key_at text mark width e ≡ cut_to width (drop a text) ++ slash (eqb (e % 2) 1)
  unfolding key_at name_at
  key-is e a p = ap (λ (l : List ℕ). cut_to width l ++ slash (eqb (e % 2) 1)) (sym p)

  pub name-length : (a c m : ℕ) → (a ≤ c) × (c ≤ length text) × (take (c - a) (drop a text) ≡ cut_to width (drop a text)) → m < 2
      → c - a + m ≡ length (cut_to width (drop a text) ++ slash (eqb m 1))
  name-length a c m p r = go (eqb m 1) refl
    where
      part : length (cut_to width (drop a text)) ≡ c - a
      part = ap length (sym p.2) ∙ simp (length-take, length-drop) (omega arith)

      go : (t : Bool) → eqb m 1 ≡ t → c - a + m ≡ length (cut_to width (drop a text) ++ slash t)
      go true e = omega (arith, part, length-append (cut_to width (drop a text)) (47 ∷ []), eqb-true m 1 e)
      go false e = omega (arith, part, length-append (cut_to width (drop a text)) [], eqb-false m 1 e)

-- by how the two names stand
pub below-is : (key : ℕ → List ℕ) (x y : ℕ) (a : List ℕ) (s : Bool) (b : List ℕ) (t : Bool) → key x ≡ a ++ slash s → key y ≡ b ++ slash t
    → (o : Ordering) → o ≡ name_order a s b t → (m n : ℕ) → m ≡ length (a ++ slash s) → n ≡ length (b ++ slash t)
    → decide (then_by o (by_number m n)) (ltb x y) ≡ below_by key x y
unfolding below_by
below-is key x y a s b t p q o e m n f g =
    let z : then_by o (by_number m n) ≡ name_order (key x) false (key y) false = rw (e, f, g, p, q) (sym (key_order a s b t)) in
    ap (λ (o : Ordering). decide o (ltb x y)) z

-- the same in terms of where the names begin
module _ (text : List ℕ) (mark width : ℕ) where
  pub elements : (x y a b : ℕ) → (a ≤ length text) × (drop a text ≡ past_mark mark (drop (x / 2) text))
      → (b ≤ length text) × (drop b text ≡ past_mark mark (drop (y / 2) text))
      → (o : Ordering) → o ≡ name_order (cut_to width (drop a text)) (eqb (x % 2) 1) (cut_to width (drop b text)) (eqb (y % 2) 1)
      → (m n : ℕ) → m ≡ length (cut_to width (drop a text) ++ slash (eqb (x % 2) 1)) → n ≡ length (cut_to width (drop b text) ++ slash (eqb (y % 2) 1))
      → decide (then_by o (by_number m n)) (ltb x y) ≡ below_by (key_at text mark width) x y
  elements x y a b p q o e m n f g =
      below-is (key_at text mark width) x y (cut_to width (drop a text)) (eqb (x % 2) 1) (cut_to width (drop b text)) (eqb (y % 2) 1)
      (key-is text mark width x a p.1) (key-is text mark width y b q.1) o e m n f g

-- a cut is no longer than what it is cut from
pub cut_le : (width : ℕ) (s : List ℕ) → length (cut_to width s) ≤ length s
unfolding cut_to
cut_le width s = go (eqb width 0)
  where
    go : (t : Bool) → length (pick t (take (count_to 0 s) s) (take width s)) ≤ length s
    go true = omega (arith, length-take (count_to 0 s) s)
    go false = omega (arith, length-take width s)

-- ---- the keys of records and of ids

past_pre : (mark : ℕ) (pre rest : List ℕ) → drop (suc (length pre)) (pre ++ mark ∷ rest) ≡ rest
past_pre mark [] rest = refl
past_pre mark (x ∷ pre) rest = past_pre mark pre rest

past_record : (mark : ℕ) (pre rest : List ℕ) → (mark ≡ 0 → ⊥) → free_of mark pre ≡ true → past_mark mark (pre ++ mark ∷ rest) ≡ rest
unfolding past_mark
past_record mark pre rest n p = rw (ne_eqb mark 0 n, count_free mark pre rest p) (past_pre mark pre rest)

cut-name : (name rest : List ℕ) → free_of 0 name ≡ true → cut_to 0 (name ++ 0 ∷ rest) ≡ name
unfolding cut_to
cut-name name rest p = rw (count_free 0 name rest p) (take-append_seam name (0 ∷ rest))

module _ (text : List ℕ) (e : ℕ) where
  -- where something without the mark, the mark, a name and NUL stand at an element's place, that name is its key
  pub key_record : (mark : ℕ) (pre name rest : List ℕ) → (mark ≡ 0 → ⊥) → free_of mark pre ≡ true → free_of 0 name ≡ true
      → drop (e / 2) text ≡ pre ++ mark ∷ (name ++ 0 ∷ rest) → key_at text mark 0 e ≡ name ++ slash (folder e)
  unfolding key_at name_at
  key_record mark pre name rest n p q d =
      ap (λ (l : List ℕ). l ++ slash (folder e))
      (ap (λ (l : List ℕ). cut_to 0 (past_mark mark l)) d ∙ ap (cut_to 0) (past_record mark pre (name ++ 0 ∷ rest) n p) ∙ cut-name name rest q)

  -- where bytes of the width stand there, and there is no mark, those
  pub key-id : (width : ℕ) (id rest : List ℕ) → (width ≡ 0 → ⊥) → length id ≡ width → drop (e / 2) text ≡ id ++ rest
      → key_at text 0 width e ≡ id ++ slash (folder e)
  unfolding key_at name_at past_mark cut_to
  key-id width id rest n h d =
      let z : cut_to width (drop (e / 2) text) ≡ id = rw (ne_eqb width 0 n, d) (take_at id rest width h) in
      ap (λ (l : List ℕ). l ++ slash (folder e)) z

-- ---- where a key begins

module _ (mark : ℕ) (text : List ℕ) (place : ℕ) where
  pub begin-past : length text ≤ place → drop (length text) text ≡ past_mark mark (drop place text)
  unfolding past_mark
  begin-past h = drop-length text ∙ rw (drop_of_length-le text {i = place} h) (go (eqb mark 0))
    where
      go : (t : Bool) → [] ≡ pick t [] (drop {A = ℕ} (suc 0) [])
      go true = refl
      go false = refl

  pub begin-here : mark ≡ 0 → drop place text ≡ past_mark mark (drop place text)
  unfolding past_mark
  begin-here e = rw (eq-eqb mark 0 e) refl

  module _ (n : mark ≡ 0 → ⊥) (at : ℕ) (e : at ≡ place_from mark text place) where
    past_is : drop (at + 1) text ≡ past_mark mark (drop place text)
    unfolding past_mark place_from
    past_is =
        rw (ne_eqb mark 0 n)
        (let z : at + 1 ≡ place + suc (count_to mark (drop place text)) = omega arith in
        ap (λ (k : ℕ). drop k text) z ∙ sym (drop-drop (suc (count_to mark (drop place text))) place text))

    pub begin-found : at < length text → drop (at + 1) text ≡ past_mark mark (drop place text)
    begin-found h = past_is

    pub begin_lost : length text ≤ at → drop (length text) text ≡ past_mark mark (drop place text)
    begin_lost h = drop-length text ∙ sym (drop_of_length-le text {i = at + 1} (omega arith)) ∙ past_is

-- ---- where it ends

module _ (width : ℕ) (text : List ℕ) (from : ℕ) (h : from ≤ length text) where
  pub end_nul : (r : ℕ) → width ≡ 0 → r ≡ place_from 0 text from
      → (from ≤ r) × (r ≤ length text) × (take (r - from) (drop from text) ≡ cut_to width (drop from text))
  unfolding cut_to place_from
  end_nul r e f =
      let z : r - from ≡ count_to 0 (drop from text) = omega arith in
      (omega arith, omega (arith, count-le 0 (drop from text), length-drop from text), rw (eq-eqb width 0 e) (ap (λ (k : ℕ). take k (drop from text)) z))

  module _ (n : width ≡ 0 → ⊥) where
    pub end_wide : width < length text - from
        → (from ≤ from + width) × (from + width ≤ length text) × (take (from + width - from) (drop from text) ≡ cut_to width (drop from text))
    unfolding cut_to
    end_wide k =
        let z : from + width - from ≡ width = omega arith in
        (omega arith, omega arith, rw (ne_eqb width 0 n) (ap (λ (k : ℕ). take k (drop from text)) z))

    pub end_last : length text - from ≤ width
        → (from ≤ length text) × (length text ≤ length text) × (take (length text - from) (drop from text) ≡ cut_to width (drop from text))
    unfolding cut_to
    end_last k =
        (omega arith, omega arith, rw (ne_eqb width 0 n) (part-from text from ∙ sym (take_all width (drop from text) (simp length-drop (omega arith)))))

-- ---- the names walked side by side

pub ended-next : (l : List ℕ) (t : Bool) → ended (next l false) t ≡ next l t
unfolding ended next
ended-next [] true = refl
ended-next [] false = refl
ended-next (x ∷ l) t = rw (ne_eqb (suc x) 0 (λ e. omega arith)) refl

-- at the end of the first, or where they differ, they share no more
walk_ended : (u v : List ℕ) → next u false ≡ 0 → common_start u v ≡ 0
unfolding next common_start
walk_ended [] v e = refl
walk_ended (x ∷ u) v e = absurd (omega arith)

walk_differs : (u v : List ℕ) → (next u false ≡ next v false → ⊥) → common_start u v ≡ 0
unfolding next common_start
walk_differs [] v n = refl
walk_differs (x ∷ u) [] n = refl
walk_differs (x ∷ u) (y ∷ v) n = common_differ x u y v (λ e. n (ap suc e))

walk_agrees : (u v : List ℕ) → (next u false ≡ 0 → ⊥) → next u false ≡ next v false
    → (common_start u v ≡ suc (common_start (drop 1 u) (drop 1 v))) × (1 ≤ length u) × (1 ≤ length v)
unfolding next
walk_agrees [] v n e = absurd (n refl)
walk_agrees (x ∷ u) [] n e = absurd (omega arith)
walk_agrees (x ∷ u) (y ∷ v) n e = (common_same x u y v (omega arith), omega arith, omega arith)

-- i places on, all of them shared
pub record Walk (a b : List ℕ) (i : ℕ) : Type 0 where
  pub shared : common_start a b ≡ i + common_start (drop i a) (drop i b)
  pub left : i ≤ length a
  pub right : i ≤ length b

pub walk_start : (a b : List ℕ) → Walk a b 0
walk_start a b = record { shared = omega arith; left = omega arith; right = omega arith }

module _ (a b : List ℕ) (i : ℕ) (w : Walk a b i) where
  decided : (s t : Bool) → common_start (drop i a) (drop i b) ≡ 0
      → by_number (ended (next (drop i a) false) s) (ended (next (drop i b) false) t) ≡ name_order a s b t
  decided s t z = rw (ended-next (drop i a) s, ended-next (drop i b) t) (sym (decided_at a s b t i (omega (arith, w.shared))))

  module _ (p q : ℕ) (e : p ≡ next (drop i a) false) (f : q ≡ next (drop i b) false) where
    pub walk_more : (p ≡ 0 → ⊥) → p ≡ q → Walk a b (i + 1)
    walk_more n h =
        let r = walk_agrees (drop i a) (drop i b) (λ z. n (e ∙ z)) (sym e ∙ h ∙ f) in
        let z : common_start (drop 1 (drop i a)) (drop 1 (drop i b)) ≡ common_start (drop (i + 1) a) (drop (i + 1) b) = rw (drop-drop 1 i a, drop-drop 1 i b) refl in
        record { shared = omega (arith, w.shared, r.0); left = omega (arith, r.1, length-drop i a); right = omega (arith, r.2, length-drop i b) }

    pub walk_end : (s t : Bool) → p ≡ 0 → by_number (ended p s) (ended q t) ≡ name_order a s b t
    walk_end s t h = rw (e, f) (decided s t (walk_ended (drop i a) (drop i b) (sym e ∙ h)))

    pub walk_off : (s t : Bool) → (p ≡ q → ⊥) → by_number (ended p s) (ended q t) ≡ name_order a s b t
    walk_off s t n = rw (e, f) (decided s t (walk_differs (drop i a) (drop i b) (λ h. n (e ∙ h ∙ sym f))))

-- ---- the byte at a place of a name

module _ (text : List ℕ) (width from i : ℕ) where
  next-none : length (cut_to width (drop from text)) ≤ i → 0 ≡ next (drop i (cut_to width (drop from text))) false
  unfolding next
  next-none h = rw (drop_of_length-le (cut_to width (drop from text)) {i = i} h) refl

  pub next-over : length text - from ≤ i → 0 ≡ next (drop i (cut_to width (drop from text))) false
  next-over h = next-none (go (eqb width 0) refl)
    where
      go : (t : Bool) → eqb width 0 ≡ t → length (cut_to width (drop from text)) ≤ i
      go t e = omega (arith, cut_le width (drop from text), length-drop from text)

  module _ (w : width ≡ 0) where
    cut_nul : cut_to width (drop from text) ≡ take (count_to 0 (drop from text)) (drop from text)
    unfolding cut_to
    cut_nul = rw (eq-eqb width 0 w) refl

    module _ (h : i < length text - from) where
      inside : i < length (drop from text)
      inside = omega (arith, length-drop from text)

      pub next_nul : get_or text (from + i) 0 ≡ 0 → 0 ≡ next (drop i (cut_to width (drop from text))) false
      next_nul e =
          next-none
          (rw cut_nul
          (omega (arith, length-take (count_to 0 (drop from text)) (drop from text), count_at 0 (drop from text) i inside (get_or-drop from text i 0 ∙ e))))

      pub next_byte_nul : i ≤ length (cut_to width (drop from text)) → (get_or text (from + i) 0 ≡ 0 → ⊥)
          → get_or text (from + i) 0 + 1 ≡ next (drop i (cut_to width (drop from text))) false
      next_byte_nul k n =
          let c : i ≤ count_to 0 (drop from text) = omega (arith, length-take (count_to 0 (drop from text)) (drop from text), rw cut_nul at k) in
          let d : i < count_to 0 (drop from text) =
          ⊎_elim
          (λ (e : i ≡ count_to 0 (drop from text)).
          absurd (n (sym (get_or-drop from text i 0) ∙ ap (λ (k : ℕ). get_or (drop from text) k 0) e ∙ count-is 0 (drop from text) (omega (arith, inside)))))
          (λ (e : i ≡ count_to 0 (drop from text) → ⊥). omega arith)
          (equal i (count_to 0 (drop from text))) in
          sym
          (rw cut_nul
          (next-byte (take (count_to 0 (drop from text)) (drop from text)) i false
          (omega (arith, length-take (count_to 0 (drop from text)) (drop from text), count-le 0 (drop from text)))
          ∙ ap (λ (k : ℕ). k + 1) (get_or-take (count_to 0 (drop from text)) (drop from text) i 0 d ∙ get_or-drop from text i 0)))

  module _ (w : width ≡ 0 → ⊥) where
    cut-wide : cut_to width (drop from text) ≡ take width (drop from text)
    unfolding cut_to
    cut-wide = rw (ne_eqb width 0 w) refl

    pub next-past-width : width ≤ i → 0 ≡ next (drop i (cut_to width (drop from text))) false
    next-past-width h = next-none (rw cut-wide (omega (arith, length-take width (drop from text))))

    pub next_byte_wide : i < length text - from → i < width → get_or text (from + i) 0 + 1 ≡ next (drop i (cut_to width (drop from text))) false
    next_byte_wide h k =
        sym
        (rw cut-wide
        (next-byte (take width (drop from text)) i false (omega (arith, length-take width (drop from text), length-drop from text))
        ∙ ap (λ (k : ℕ). k + 1) (get_or-take width (drop from text) i 0 k ∙ get_or-drop from text i 0)))
