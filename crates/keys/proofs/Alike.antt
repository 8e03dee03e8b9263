-- How far two names agree, from how far the bytes do that begin with them. Assumes nothing.
use mathlib.Core.Path.{◌≡◌, refl, ap}
use mathlib.Core.Logic.{⊎_elim}
use mathlib.Core.List.{List, [], ◌∷◌}
use native.Mathlib.Omega.{arith}
use Prim.Native.Nat.{ℕ, zero, suc, ◌+◌, ◌-◌, ◌≤◌, min}
use lib.ListN.{length, take, drop, length-drop}
use borrow.Author.Tests.{eq-eqb, ne_eqb}
use Rattle.ground.specs.Scan.{count_to, common_start}
use Rattle.ground.proofs.Laws.{count-take, part-from, equal, common_left, common_same, common_differ}
use Rattle.keys.specs.Key.{cut_to}
use Rattle.keys.proofs.Keys.{Walk, walk_start}

-- as far as two lists agree they are the same
same_front : (n : ℕ) (u v : List ℕ) → n ≤ common_start u v → take n u ≡ take n v
unfolding common_start
same_front zero u v h = refl
same_front (suc n) [] v h = absurd (omega arith)
same_front (suc n) (x ∷ u) [] h = absurd (omega arith)
same_front (suc n) (x ∷ u) (y ∷ v) h =
    ⊎_elim (λ e. rw e (ap (λ (l : List ℕ). y ∷ l) (same_front n u v (omega (arith, common_same x u y v e)))))
    (λ m. absurd (omega (arith, common_differ x u y v m))) (equal x y)

-- the front of a list agrees with another no further than the list does
front_less : (k : ℕ) (u v : List ℕ) → common_start (take k u) v ≤ common_start u v
unfolding common_start
front_less zero u v = omega arith
front_less (suc k) [] v = omega arith
front_less (suc k) (x ∷ u) [] = omega arith
front_less (suc k) (x ∷ u) (y ∷ v) =
    ⊎_elim (λ e. omega (arith, common_same x (take k u) y v e, common_same x u y v e, front_less k u v))
    (λ m. omega (arith, common_differ x (take k u) y v m)) (equal x y)

-- a place further, past a byte that both begin with
walk_behind : (x y : ℕ) (a b : List ℕ) (i : ℕ) → x ≡ y → Walk a b i → Walk (x ∷ a) (y ∷ b) (suc i)
walk_behind x y a b i e w =
    record { shared = omega (arith, common_same x a y b e, w.shared); left = omega (arith, w.left); right = omega (arith, w.right) }

-- as far as two lists agree, their fronts do
walk_fronts : (i j k : ℕ) (u v : List ℕ) → i ≤ common_start u v → i ≤ j → i ≤ k → Walk (take j u) (take k v) i
unfolding common_start
walk_fronts zero j k u v h p q = walk_start _ _
walk_fronts (suc i) zero k u v h p q = absurd (omega arith)
walk_fronts (suc i) (suc j) zero u v h p q = absurd (omega arith)
walk_fronts (suc i) (suc j) (suc k) [] v h p q = absurd (omega arith)
walk_fronts (suc i) (suc j) (suc k) (x ∷ u) [] h p q = absurd (omega arith)
walk_fronts (suc i) (suc j) (suc k) (x ∷ u) (y ∷ v) h p q =
    ⊎_elim (λ e. walk_behind x y _ _ i e (walk_fronts i j k u v (omega (arith, common_same x u y v e)) (omega arith) (omega arith)))
    (λ m. absurd (omega (arith, common_differ x u y v m))) (equal x y)

-- the first bytes from one place on, and those from another, agree no further than to the end
module _ (text : List ℕ) (a b k n : ℕ) (e : n ≡ common_start (take k (drop a text)) (take (length text - b) (drop b text))) where
  pub alike_from : n ≤ common_start (drop a text) (drop b text)
  alike_from = omega (arith, rw (part-from text b) at e, front_less k (drop a text) (drop b text))

  pub alike_within : a ≤ length text → a + n ≤ length text
  alike_within h = omega (arith, alike_from, common_left (drop a text) (drop b text), length-drop a text)

module _ (width : ℕ) (s t : List ℕ) (n : ℕ) (h : n ≤ common_start s t) where
  -- names that end at a NUL agree up to the first NUL of bytes that agree
  pub alike_nul : width ≡ 0 → (r : ℕ) → r ≡ count_to 0 (take n s) → Walk (cut_to width s) (cut_to width t) r
  unfolding cut_to
  alike_nul w r f =
      let c : count_to 0 (take n s) ≡ count_to 0 (take n t) = ap (count_to 0) (same_front n s t h) in
      rw (eq-eqb width 0 w)
      (walk_fronts r (count_to 0 s) (count_to 0 t) s t (omega (arith, count-take 0 n s)) (omega (arith, count-take 0 n s)) (omega (arith, c, count-take 0 n t)))

  -- names of one width agree no further than that
  pub alike_wide : (width ≡ 0 → ⊥) → (r : ℕ) → r ≡ min n width → Walk (cut_to width s) (cut_to width t) r
  unfolding cut_to
  alike_wide w r f = rw (ne_eqb width 0 w) (walk_fronts r width width s t (omega arith) (omega arith) (omega arith))
