-- Laws of the definitions of `ground`, which every layer cites: tests, gates, scans, parts. Assumes nothing.
use native.Mathlib.Decide.{dec_lt}
use native.Mathlib.Nat.{not-suc-le-zero, le_of_suc-le-suc, add-zero, add-suc, suc-add}
use native.Mathlib.Numerals.{add-one}
use native.Mathlib.Omega.{arith}
use Prim.Native.Nat.{ℕ, zero, suc, ◌+◌, ◌-◌, ◌<◌, ◌≤◌, min}
use mathlib.Core.Path.{◌≡◌, refl, ap, sym, ◌∙◌}
use mathlib.Core.Bool.{Bool, true, false, false≢true, ◌&&◌, ◌||◌, not}
use mathlib.Core.List.{List, [], ◌∷◌, ◌++◌}
use mathlib.Core.Logic.{◌⊎◌, inl, inr, ⊎_elim}
use lib.Dec.{eqb, leb}
use lib.ListN.{length, get_or, take, drop, set, drop_of_length-le, length-drop}
use lib.Seq.{drop-cons, take_all, sets, sets-eq}
use borrow.Author.Tests.{eq-eqb, ne_eqb, eqb-true, le-leb, lt-leb, leb-true}
use Rattle.ground.specs.Basics.{pick}
use Rattle.ground.specs.Verdict.{verdict, id_length, size_gate, gate_of, most_bytes, most_records, stored}
use Rattle.ground.specs.Scan.{count_to, place_from, common_start, same_bytes, free_of}
use Rattle.ground.specs.declared.Verdict.{Verdict}
use Rattle.std.specs.Prelude.{Err, Ok}

-- ---- tests

pub and_left : (a b : Bool) → (a && b) ≡ true → a ≡ true
and_left true b e = refl
and_left false b e = e

pub and_right : (a b : Bool) → (a && b) ≡ true → b ≡ true
and_right true b e = e
and_right false b e = absurd (false≢true e)

pub is_false : (b : Bool) → (b ≡ true → ⊥) → b ≡ false
is_false true h = absurd (h refl)
is_false false h = refl

-- two tests that hold together are one
pub same_test : (a b : Bool) → (a ≡ true → b ≡ true) → (b ≡ true → a ≡ true) → a ≡ b
same_test true b f g = sym (f refl)
same_test false true f g = g refl
same_test false false f g = refl

-- two numbers are equal or not
pub equal : (x y : ℕ) → (x ≡ y) ⊎ (x ≡ y → ⊥)
equal x y =
    elim (dec_lt x y) [
      | yes h ↦ inr (λ e. omega arith)
      | no h ↦ elim (dec_lt y x) [ yes k ↦ inr (λ e. omega arith) | no k ↦ inl (omega arith) ]
    ]

-- ---- the gate

-- an id length is one of the two
pub id-is : (h : ℕ) → id_length h ≡ true → (h ≡ 20) ⊎ (h ≡ 32)
unfolding id_length
id-is h e = go (eqb h 20) refl e
  where
    go : (a : Bool) → eqb h 20 ≡ a → (a || eqb h 32) ≡ true → (h ≡ 20) ⊎ (h ≡ 32)
    go true p e = inl (eqb-true h 20 p)
    go false p e = inr (eqb-true h 32 e)

pub id-made : (h : ℕ) → (h ≡ 20) ⊎ (h ≡ 32) → id_length h ≡ true
unfolding id_length
id-made h (inl e) = rw e
id-made h (inr e) = rw e

module _ (bytes records : ℕ) where
  pub size-bytes : most_bytes < bytes → size_gate bytes records ≡ Err (verdict 2 0)
  unfolding size_gate
  size-bytes p = simp (lt-leb bytes most_bytes p)

  pub size-records : bytes ≤ most_bytes → most_records < records → size_gate bytes records ≡ Err (verdict 2 0)
  unfolding size_gate
  size-records p q = simp (le-leb bytes most_bytes p, lt-leb records most_records q)

  pub size-fine : bytes ≤ most_bytes → records ≤ most_records → size_gate bytes records ≡ Ok tt
  unfolding size_gate
  size-fine p q = simp (le-leb bytes most_bytes p, le-leb records most_records q)

  pub size_open : size_gate bytes records ≡ Ok tt → (bytes ≤ most_bytes) × (records ≤ most_records)
  unfolding size_gate
  size_open e = go (leb bytes most_bytes) refl (leb records most_records) refl e
    where
      go : (a : Bool) → leb bytes most_bytes ≡ a → (b : Bool) → leb records most_records ≡ b → pick (a && b) (Ok (tt {0})) (Err (verdict 2 0)) ≡ Ok tt
          → (bytes ≤ most_bytes) × (records ≤ most_records)
      go true p true q e = (leb-true bytes most_bytes p, leb-true records most_records q)
      go true p false q e = let z : ◌≡◌ {A = ℕ} 0 1 = cc in absurd (omega arith)
      go false p b q e = let z : ◌≡◌ {A = ℕ} 0 1 = cc in absurd (omega arith)

module _ (h bytes records : ℕ) where
  pub gate_id : (h ≡ 20) ⊎ (h ≡ 32) → gate_of h bytes records ≡ size_gate bytes records
  unfolding gate_of
  gate_id e = simp (id-made h e)

  pub gate_other : (h ≡ 20 → ⊥) → (h ≡ 32 → ⊥) → gate_of h bytes records ≡ Err (verdict 1 0)
  unfolding gate_of id_length
  gate_other a b = simp (ne_eqb h 20 a, ne_eqb h 32 b)

  -- within the bounds a call begins
  pub gate_fine : (h ≡ 20) ⊎ (h ≡ 32) → bytes ≤ most_bytes → records ≤ most_records → gate_of h bytes records ≡ Ok tt
  gate_fine e p q = gate_id e ∙ size-fine bytes records p q

  -- a call that began is within the bounds
  pub gate_open : gate_of h bytes records ≡ Ok tt → ((h ≡ 20) ⊎ (h ≡ 32)) × (bytes ≤ most_bytes) × (records ≤ most_records)
  unfolding gate_of
  gate_open e = go (id_length h) refl e
    where
      go : (a : Bool) → id_length h ≡ a → pick a (size_gate bytes records) (Err (verdict 1 0)) ≡ Ok tt
          → ((h ≡ 20) ⊎ (h ≡ 32)) × (bytes ≤ most_bytes) × (records ≤ most_records)
      go true p e = let s = size_open bytes records e in (id-is h p, s.0, s.1)
      go false p e = let z : ◌≡◌ {A = ℕ} 0 1 = cc in absurd (omega arith)

  -- a call that did not begin was refused 1 or 2
  pub gate_shut : (v : Verdict) → gate_of h bytes records ≡ Err v → (v ≡ verdict 1 0) ⊎ (v ≡ verdict 2 0)
  unfolding gate_of size_gate
  gate_shut v e = go (id_length h) (leb bytes most_bytes && leb records most_records) e
    where
      go : (a b : Bool) → pick a (pick b (Ok (tt {0})) (Err (verdict 2 0))) (Err (verdict 1 0)) ≡ Err v → (v ≡ verdict 1 0) ⊎ (v ≡ verdict 2 0)
      go true true e = let z : ◌≡◌ {A = ℕ} 0 1 = cc in absurd (omega arith)
      go true false e = inr (cc)
      go false b e = inl (cc)

-- both id lengths are small
pub id_small : (h : ℕ) → (h ≡ 20) ⊎ (h ≡ 32) → (20 ≤ h) × (h ≤ 32)
id_small h (inl e) = omega arith
id_small h (inr e) = omega arith

-- ---- what was lent, afterwards

pub stored-done : (v : Verdict) (l lent : List ℕ) → v.number ≡ 0 → stored v l lent ≡ l ++ drop (length l) lent
unfolding stored
stored-done v l lent e = simp (eq-eqb v.number 0 e)

-- a refusal leaves what was lent
pub stored_refused : (v : Verdict) (l lent : List ℕ) → (v.number ≡ 0 → ⊥) → stored v l lent ≡ lent
unfolding stored
stored_refused v l lent e = simp (ne_eqb v.number 0 e)

-- a run of stores, in two runs
pub sets_append : {A : Type 0} (l : List A) (i : ℕ) (p q : List A) → sets l i (p ++ q) ≡ sets (sets l i p) (i + length p) q
sets_append l i [] q = rw (add-zero i)
sets_append l i (x ∷ p) q = sets_append (set l i x) (suc i) p q ∙ rw (add-suc i (length p), suc-add i (length p))

-- a run of stores from the front on
pub sets_front : {A : Type 0} (l p : List A) → length p ≤ length l → sets l 0 p ≡ p ++ drop (length p) l
sets_front {A} l p h =
    let z : 0 + length p ≡ length p = omega arith in
    sets-eq p l 0 (omega arith) ∙ ap (λ (k : ℕ). p ++ drop k l) z

-- ---- parts

-- a part that runs to the end is all from its start on
pub part-from : (s : List ℕ) (at : ℕ) → take (length s - at) (drop at s) ≡ drop at s
part-from s at = take_all (length s - at) (drop at s) (simp length-drop (omega arith))

-- what stands within a list does not hang on the default
pub get_d_any : {A : Type 0} (l : List A) (n : ℕ) (d e : A) → n < length l → get_or l n d ≡ get_or l n e
get_d_any [] n d e h = absurd (not-suc-le-zero h)
get_d_any (x ∷ xs) zero d e h = refl
get_d_any (x ∷ xs) (suc n) d e h = get_d_any xs n d e (le_of_suc-le-suc h)

-- ---- the first place of a byte

pub place_here : (x : ℕ) (s : List ℕ) (i : ℕ) → i < length s → get_or s i 0 ≡ x → place_from x s i ≡ i
unfolding place_from
place_here x s i h e = rw (drop-cons s i 0 h) (simp (eq-eqb (get_or s i 0) x e) (omega arith))

pub place-next : (x : ℕ) (s : List ℕ) (i : ℕ) → i < length s → (get_or s i 0 ≡ x → ⊥) → place_from x s i ≡ place_from x s (i + 1)
unfolding place_from
place-next x s i h e = rw (add-one i, drop-cons s i 0 h) (simp (ne_eqb (get_or s i 0) x e) (omega arith))

pub place_end : (x : ℕ) (s : List ℕ) (i : ℕ) → length s ≤ i → place_from x s i ≡ i
unfolding place_from
place_end x s i h = rw (drop_of_length-le s {i = i} h) (omega arith)

-- from the first byte on it is a count
pub place-count : (x : ℕ) (s : List ℕ) → place_from x s 0 ≡ count_to x s
unfolding place_from
place-count x s = omega arith

-- counting goes no further than the end
pub count-le : (x : ℕ) (s : List ℕ) → count_to x s ≤ length s
count-le x [] = omega arith
count-le x (b ∷ bs) = go (eqb b x) (count-le x bs)
  where
    go : (t : Bool) → count_to x bs ≤ length bs → pick t 0 (suc (count_to x bs)) ≤ suc (length bs)
    go true h = omega arith
    go false h = omega arith

-- the first place of a byte lies at or after the start, and no further than the end
pub place-from : (x : ℕ) (s : List ℕ) (i : ℕ) → i ≤ place_from x s i
unfolding place_from
place-from x s i = omega arith

pub place-within : (x : ℕ) (s : List ℕ) (i : ℕ) → i ≤ length s → place_from x s i ≤ length s
unfolding place_from
place-within x s i h = omega (arith, count-le x (drop i s), length-drop i s)

-- of the first k bytes it is cut off at k
pub count-take : (x k : ℕ) (s : List ℕ) → count_to x (take k s) ≡ min k (count_to x s)
count-take x zero s = omega arith
count-take x (suc k) [] = omega arith
count-take x (suc k) (b ∷ bs) = go (eqb b x) (count-take x k bs)
  where
    go : (t : Bool) → count_to x (take k bs) ≡ min k (count_to x bs) → pick t 0 (suc (count_to x (take k bs))) ≡ min (suc k) (pick t 0 (suc (count_to x bs)))
    go true h = omega arith
    go false h = omega arith

-- where counting to x ends within the bytes, x stands
pub count-is : (x : ℕ) (s : List ℕ) → count_to x s < length s → get_or s (count_to x s) 0 ≡ x
count-is x [] p = absurd (omega arith)
count-is x (b ∷ bs) p = go (λ q. count-is x bs q) (eqb b x) refl p
  where
    go : (count_to x bs < length bs → get_or bs (count_to x bs) 0 ≡ x) → (v : Bool) → eqb b x ≡ v → pick v 0 (suc (count_to x bs)) < suc (length bs)
        → get_or (b ∷ bs) (pick v 0 (suc (count_to x bs))) 0 ≡ x
    go ih true q p = eqb-true b x q
    go ih false q p = ih (omega arith)

-- counting to x goes no further than a place where x stands
pub count_at : (x : ℕ) (s : List ℕ) (k : ℕ) → k < length s → get_or s k 0 ≡ x → count_to x s ≤ k
count_at x [] k p e = absurd (omega arith)
count_at x (y ∷ ys) zero p e = simp (eq-eqb y x e) (omega arith)
count_at x (y ∷ ys) (suc k) p e = go (eqb y x) (count_at x ys k (omega arith) e)
  where
    go : (t : Bool) → count_to x ys ≤ k → pick t 0 (suc (count_to x ys)) ≤ suc k
    go true q = omega arith
    go false q = omega arith

-- bytes without x are counted whole, and the x after them ends the count
pub count_free : (x : ℕ) (n r : List ℕ) → free_of x n ≡ true → count_to x (n ++ x ∷ r) ≡ length n
count_free x [] r e = simp (eq-eqb x x refl)
count_free x (b ∷ bs) r e = go (count_free x bs r) (eqb b x) e
  where
    go : (free_of x bs ≡ true → count_to x (bs ++ x ∷ r) ≡ length bs) → (v : Bool) → (not v && free_of x bs) ≡ true → pick v 0 (suc (count_to x (bs ++ x ∷ r))) ≡ suc (length bs)
    go ih true q = absurd (false≢true q)
    go ih false q = ap suc (ih q)

-- what counting passes is free of x
pub free-count : (x : ℕ) (s : List ℕ) → free_of x (take (count_to x s) s) ≡ true
free-count x [] = refl
free-count x (b ∷ bs) = go (free-count x bs) (eqb b x) refl
  where
    go : free_of x (take (count_to x bs) bs) ≡ true → (v : Bool) → eqb b x ≡ v → free_of x (take (pick v 0 (suc (count_to x bs))) (b ∷ bs)) ≡ true
    go ih true q = refl
    go ih false q = rw q ih

-- the count is the length exactly where there is no x
pub free_whole : (x : ℕ) (s : List ℕ) → count_to x s ≡ length s → free_of x s ≡ true
free_whole x s e = rw (e, take_all (length s) s (omega arith)) at (free-count x s)

pub whole_free : (x : ℕ) (s : List ℕ) → free_of x s ≡ true → count_to x s ≡ length s
whole_free x [] e = refl
whole_free x (b ∷ bs) e = go (whole_free x bs) (eqb b x) e
  where
    go : (free_of x bs ≡ true → count_to x bs ≡ length bs) → (v : Bool) → (not v && free_of x bs) ≡ true → pick v 0 (suc (count_to x bs)) ≡ suc (length bs)
    go ih true q = absurd (false≢true q)
    go ih false q = ap suc (ih q)

-- ---- what two lists share at their start

pub common_same : (x : ℕ) (a : List ℕ) (y : ℕ) (b : List ℕ) → x ≡ y → common_start (x ∷ a) (y ∷ b) ≡ suc (common_start a b)
unfolding common_start
common_same x a y b e = rw (eq-eqb x y e)

pub common_differ : (x : ℕ) (a : List ℕ) (y : ℕ) (b : List ℕ) → (x ≡ y → ⊥) → common_start (x ∷ a) (y ∷ b) ≡ 0
unfolding common_start
common_differ x a y b e = rw (ne_eqb x y e)

common_none : (a : List ℕ) → common_start a [] ≡ 0
unfolding common_start
common_none [] = refl
common_none (x ∷ a) = refl

pub common_left : (a b : List ℕ) → common_start a b ≤ length a
unfolding common_start
common_left [] b = omega arith
common_left (x ∷ a) [] = omega arith
common_left (x ∷ a) (y ∷ b) =
    ⊎_elim (λ e. omega (arith, common_same x a y b e, common_left a b)) (λ n. omega (arith, common_differ x a y b n)) (equal x y)

pub common_right : (a b : List ℕ) → common_start a b ≤ length b
unfolding common_start
common_right [] b = omega arith
common_right (x ∷ a) [] = omega arith
common_right (x ∷ a) (y ∷ b) =
    ⊎_elim (λ e. omega (arith, common_same x a y b e, common_right a b)) (λ n. omega (arith, common_differ x a y b n)) (equal x y)

-- past it, where both go on, their bytes differ
pub common_off : (a b : List ℕ) → common_start a b < length a → common_start a b < length b → get_or a (common_start a b) 0 ≡ get_or b (common_start a b) 0 → ⊥
unfolding common_start
common_off [] b h k e = absurd (omega arith)
common_off (x ∷ a) [] h k e = absurd (omega arith)
common_off (x ∷ a) (y ∷ b) h k e =
    ⊎_elim (λ m. let z = common_same x a y b m in common_off a b (omega arith) (omega arith) (rw z at e)) (λ n. n (rw (common_differ x a y b n) at e)) (equal x y)

-- the walk along two lists, at a place
module _ (a b : List ℕ) (i : ℕ) where
  pub walk_end : (length a ≤ i) ⊎ (length b ≤ i) → common_start (drop i a) (drop i b) ≡ 0
  unfolding common_start
  walk_end (inl h) = rw (drop_of_length-le a {i = i} h)
  walk_end (inr h) = rw (drop_of_length-le b {i = i} h) (common_none (drop i a))

  module _ (ha : i < length a) (hb : i < length b) where
    pub walk-on : get_or a i 0 ≡ get_or b i 0 → common_start (drop i a) (drop i b) ≡ suc (common_start (drop (i + 1) a) (drop (i + 1) b))
    walk-on e = rw (drop-cons a i 0 ha, drop-cons b i 0 hb, add-one) (common_same _ _ _ _ e)

    pub walk_off : (get_or a i 0 ≡ get_or b i 0 → ⊥) → common_start (drop i a) (drop i b) ≡ 0
    walk_off n = rw (drop-cons a i 0 ha, drop-cons b i 0 hb) (common_differ _ _ _ _ n)

-- ---- the same bytes

pub same_refl : (xs : List ℕ) → same_bytes xs xs ≡ true
same_refl [] = refl
same_refl (x ∷ xs) = rw (eq-eqb x x refl) (same_refl xs)

pub same_true : (xs ys : List ℕ) → same_bytes xs ys ≡ true → xs ≡ ys
same_true [] [] e = refl
same_true [] (y ∷ ys) e = absurd (false≢true e)
same_true (x ∷ xs) [] e = absurd (false≢true e)
same_true (x ∷ xs) (y ∷ ys) e =
    let h : x ≡ y = eqb-true x y (and_left (eqb x y) (same_bytes xs ys) e) in
    let t : xs ≡ ys = same_true xs ys (and_right (eqb x y) (same_bytes xs ys) e) in
    cc

pub same_length : (a b : List ℕ) → (length a ≡ length b → ⊥) → same_bytes a b ≡ false
same_length a b n = is_false (same_bytes a b) (λ e. n (ap length (same_true a b e)))

-- of one length, they are the same where they agree to the end
pub same-common : (a b : List ℕ) → length a ≡ length b → eqb (common_start a b) (length a) ≡ same_bytes a b
unfolding common_start
same-common [] [] e = refl
same-common [] (y ∷ b) e = absurd (omega arith)
same-common (x ∷ a) [] e = absurd (omega arith)
same-common (x ∷ a) (y ∷ b) e = go (same-common a b (omega arith)) (eqb x y)
  where
    go : eqb (common_start a b) (length a) ≡ same_bytes a b → (v : Bool) → eqb (pick v (suc (common_start a b)) 0) (suc (length a)) ≡ (v && same_bytes a b)
    go ih true = same_test _ _
        (λ q. sym ih ∙ eq-eqb (common_start a b) (length a) (omega (arith, eqb-true (suc (common_start a b)) (suc (length a)) q)))
        (λ q. eq-eqb (suc (common_start a b)) (suc (length a)) (ap suc (eqb-true _ _ (ih ∙ q))))
    go ih false = ne_eqb 0 (suc (length a)) (λ z. omega arith)
