-- The least second of equal neighbours in a sorted list is the first element of the list that repeats a smaller one. Assumes nothing.
use Prim.Native.Nat.{ℕ, zero, suc, ◌<◌, ◌≤◌, min}
use native.Mathlib.Decide.{dec_le}
use native.Mathlib.Omega.{arith}
use mathlib.Core.Path.{◌≡◌, refl, ap, ◌∙◌}
use mathlib.Core.Logic.{◌⊎◌, inl, inr, ⊎_elim}
use mathlib.Core.Bool.{Bool, true, false}
use mathlib.Core.List.{List, [], ◌∷◌, Memᴰ}
use lib.ListN.{length, get_or}
use Rattle.ground.specs.Basics.{pick}
use Rattle.keys.specs.Key.{below_by}
use Rattle.sorting.specs.Sort.{sort_by}
use Rattle.sorting.proofs.Repeats.{Once, place-mem, mem-sorted, repeat_next, next_repeat}
use Rattle.text_repeats.specs.Least.{least_of, least_next}

-- a number that no element repeating a smaller one is below; it is such an element, or 2 ^ 32
pub record Least (same : ℕ → ℕ → Bool) (l : List ℕ) (r : ℕ) : Type 0 where
  pub low : (x y : ℕ) → Memᴰ x l → Memᴰ y l → x < y → same x y ≡ true → r ≤ y
  pub hit : (r ≡ 4294967296) ⊎ ((x : ℕ) × Memᴰ x l × Memᴰ r l × (x < r) × (same x r ≡ true))

module _ (same : ℕ → ℕ → Bool) where
  of_le : (x y m : ℕ) → least_of same x y m ≤ m
  unfolding least_of
  of_le x y m = go (same x y)
    where
      go : (b : Bool) → pick b (min m y) m ≤ m
      go true = omega arith
      go false = omega arith

  of_low : (x y m : ℕ) → same x y ≡ true → least_of same x y m ≤ y
  unfolding least_of
  of_low x y m p = let z : pick (same x y) (min m y) m ≡ min m y = ap (λ (b : Bool). pick b (min m y) m) p in omega (arith, z)

  of_hit : (x y m : ℕ) → (least_of same x y m ≡ m) ⊎ ((same x y ≡ true) × (least_of same x y m ≡ y))
  unfolding least_of
  of_hit x y m = go (same x y) refl
    where
      go : (b : Bool) → same x y ≡ b → (pick b (min m y) m ≡ m) ⊎ ((same x y ≡ true) × (pick b (min m y) m ≡ y))
      go true p = elim (dec_le m y) [ yes q ↦ inl (omega arith) | no q ↦ inr (p, omega arith) ]
      go false p = inl refl

  next_le : (l : List ℕ) (m : ℕ) → least_next same l m ≤ m
  unfolding least_next
  next_le [] m = omega arith
  next_le (x ∷ []) m = omega arith
  next_le (x ∷ y ∷ l) m = omega (arith, next_le (y ∷ l) (least_of same x y m), of_le x y m)

  next_low : (l : List ℕ) (m i : ℕ) → suc i < length l → same (get_or l i 0) (get_or l (suc i) 0) ≡ true → least_next same l m ≤ get_or l (suc i) 0
  unfolding least_next
  next_low [] m i p e = absurd (omega arith)
  next_low (x ∷ []) m i p e = absurd (omega arith)
  next_low (x ∷ y ∷ l) m zero p e = omega (arith, next_le (y ∷ l) (least_of same x y m), of_low x y m e)
  next_low (x ∷ y ∷ l) m (suc i) p e = next_low (y ∷ l) (least_of same x y m) i (omega arith) e

  next-hit : (l : List ℕ) (m : ℕ)
      → (least_next same l m ≡ m) ⊎ ((i : ℕ) × (suc i < length l) × (same (get_or l i 0) (get_or l (suc i) 0) ≡ true) × (least_next same l m ≡ get_or l (suc i) 0))
  unfolding least_next
  next-hit [] m = inl refl
  next-hit (x ∷ []) m = inl refl
  next-hit (x ∷ y ∷ l) m =
      ⊎_elim
      (λ e. ⊎_elim (λ f. inl (e ∙ f)) (λ f. inr (0, omega arith, f.0, e ∙ f.1)) (of_hit x y m))
      (λ w. inr (suc w.0, omega (arith, w.1), w.2, w.3))
      (next-hit (y ∷ l) (least_of same x y m))

module _ (key : ℕ → List ℕ) (same : ℕ → ℕ → Bool) (l : List ℕ) (once : Once l)
    (there : (x y : ℕ) → Memᴰ x l → Memᴰ y l → same x y ≡ true → key x ≡ key y)
    (back : (x y : ℕ) → Memᴰ x l → Memᴰ y l → key x ≡ key y → same x y ≡ true) where
  abbrev m : List ℕ
  m = sort_by (below_by key) l

  member : (i : ℕ) → i < length (sort_by (below_by key) l) → Memᴰ (get_or (sort_by (below_by key) l) i 0) l
  member i p = mem-sorted key l _ (place-mem 0 (sort_by (below_by key) l) i p)

  -- over the sorted list
  pub least_sorted : Least same l (least_next same (sort_by (below_by key) l) 4294967296)
  least_sorted = record {
    low = λ x y p q h e.
        let w = repeat_next key l x y p q h (there x y p q e) in
        let d : Memᴰ (get_or (sort_by (below_by key) l) w.0 0) l = member w.0 (omega (arith, w.1)) in
        let f : same (get_or (sort_by (below_by key) l) w.0 0) y ≡ true = back _ y d q w.3 in
        omega (arith, next_low same (sort_by (below_by key) l) 4294967296 w.0 w.1 (rw w.2 f), w.2);
    hit = ⊎_elim inl (λ w.
        let a = member w.0 (omega (arith, w.1)) in
        let b = member (suc w.0) w.1 in
        let n = next_repeat key l once w.0 w.1 (there _ _ a b w.2) in
        inr (get_or (sort_by (below_by key) l) w.0 0, a, rw w.3 b, rw w.3 n.2, rw w.3 w.2))
        (next-hit same (sort_by (below_by key) l) 4294967296);
  }
