-- The laws of heaps: how one element moves down, how the heap is made, and how it is taken apart into the sorted list.
-- Assumes nothing.
use mathlib.Core.Path.{◌≡◌, refl, sym, ap, subst, ◌∙◌}
use mathlib.Core.Logic.{⊎_elim}
use mathlib.Core.Bool.{Bool, true, false}
use mathlib.Core.List.{List}
use native.Mathlib.Decide.{dec_lt}
use native.Mathlib.Omega.{arith}
use Prim.Native.Nat.{ℕ, zero, suc, ◌+◌, ◌-◌, ◌*◌, ◌/◌, ◌≤◌, ◌<◌}
use lib.ListN.{length, get_or, set, length-set}
use lib.Seq.{get_or-set_same, get_or-set_other, lt-length-set}
use Rattle.ground.proofs.Laws.{equal}
use Rattle.keys.specs.Strict.{Strict}
use Rattle.sorting.specs.Sort.{sort_by, UpTo}
use Rattle.sorting.specs.Heap.{Heap, Moved, Settled, Larger}
use Rattle.sorting.proofs.Sorted.{swap, sort_swap, sort-done, ascends-by, up-below, up_trans}

-- ---- two elements exchanged

module _ (l : List ℕ) (i j : ℕ) (p : i < j) (h : j < length l) where
  swap_first : get_or (swap l i j 0) i 0 ≡ get_or l j 0
  swap_first = get_or-set_other (set l i (get_or l j 0)) j i (get_or l i 0) 0 (λ e. omega arith) ∙ get_or-set_same l i (get_or l j 0) 0 (omega arith)

  swap_second : get_or (swap l i j 0) j 0 ≡ get_or l i 0
  swap_second = get_or-set_same (set l i (get_or l j 0)) j (get_or l i 0) 0 (lt-length-set l i (get_or l j 0) h)

  swap_other : (k : ℕ) → (k ≡ i → ⊥) → (k ≡ j → ⊥) → get_or (swap l i j 0) k 0 ≡ get_or l k 0
  swap_other k a b = get_or-set_other (set l i (get_or l j 0)) j k (get_or l i 0) 0 b ∙ get_or-set_other l i k (get_or l j 0) 0 a

  swap_size : length (swap l i j 0) ≡ length l
  swap_size = length-set (set l i (get_or l j 0)) j (get_or l i 0) ∙ length-set l i (get_or l j 0)

  -- what holds of each element where it comes from
  swap_each : (Q : ℕ → ℕ → Type 0) → Q i (get_or l j 0) → Q j (get_or l i 0) → ((k : ℕ) → (k ≡ i → ⊥) → (k ≡ j → ⊥) → Q k (get_or l k 0))
      → (k : ℕ) → Q k (get_or (swap l i j 0) k 0)
  swap_each Q a b c k =
      ⊎_elim (λ (e : k ≡ i). rw (e, swap_first) a)
      (λ (m : k ≡ i → ⊥). ⊎_elim (λ (e : k ≡ j). rw (e, swap_second) b) (λ (n : k ≡ j → ⊥). rw (swap_other k m n) (c k m n)) (equal k j))
      (equal k i)

module _ (below : ℕ → ℕ → Bool) (strict : Strict below) where
  up_at : {a b c d : ℕ} → a ≡ c → b ≡ d → UpTo below c d → UpTo below a b
  up_at e f h = rw (e, f) h

  -- ---- the same elements

  pub moved_none : (l : List ℕ) (n : ℕ) → Moved below l l n
  moved_none l n = record { form = refl; size = refl; kept = λ j h. refl; held = λ z f. f }

  pub moved_then : (l m k : List ℕ) (n : ℕ) → Moved below l m n → Moved below m k n → Moved below l k n
  moved_then l m k n p q = record {
    form = q.form ∙ p.form;
    size = q.size ∙ p.size;
    kept = λ j h. q.kept j h ∙ p.kept j h;
    held = λ z f. q.held z (p.held z f);
  }

  moved_swap : (l : List ℕ) (i j n : ℕ) → i < j → j < n → n ≤ length l → Moved below l (swap l i j 0) n
  moved_swap l i j n p q h = record {
    form = sort_swap below strict 0 l i j p (omega arith);
    size = swap_size l i j p (omega arith);
    kept = λ k a. swap_other l i j p (omega arith) k (λ e. omega arith) (λ e. omega arith);
    held = λ z f. swap_each l i j p (omega arith) (λ k v. k < n → UpTo below v z) (λ _. f j q) (λ _. f i (omega arith)) (λ k _ _ a. f k a);
  }

  -- ---- one element moves down

  -- a heap from lo on but for the element at i, which what is below it may stand over
  pub record Good (l : List ℕ) (lo n i : ℕ) : Type 0 where
    pub rest : (p c : ℕ) → lo ≤ p → (p ≡ i → ⊥) → p * 2 + 1 ≤ c → c ≤ p * 2 + 2 → c < n → UpTo below (get_or l c 0) (get_or l p 0)
    pub over : (q c : ℕ) → lo ≤ q → q * 2 + 1 ≤ i → i ≤ q * 2 + 2 → i * 2 + 1 ≤ c → c ≤ i * 2 + 2 → c < n → UpTo below (get_or l c 0) (get_or l q 0)

  -- on the way down
  pub record Sifting (start l : List ℕ) (lo n i : ℕ) : Type 0 where
    pub moved : Moved below start l n
    pub good : Good l lo n i
    pub past : lo ≤ i

  pub sift_start : (l : List ℕ) (lo n : ℕ) → Heap below l (lo + 1) n → Sifting l l lo n lo
  unfolding Heap
  sift_start l lo n h = record {
    moved = moved_none l n;
    good = record {
      rest = λ p c a b d e f. h p c (omega arith) d e f;
      over = λ q c a b d e f g. absurd (omega arith);
    };
    past = omega arith;
  }

  -- at the bottom
  pub sift_end : (start l : List ℕ) (lo n i : ℕ) → n / 2 ≤ i → Sifting start l lo n i → Heap below l lo n
  unfolding Heap
  sift_end start l lo n i h s p c a b d e = s.good.rest p c a (λ q. omega arith) b d e

  -- no child stands over it
  pub sift_stop : (start l : List ℕ) (lo n i c : ℕ) → Larger below l i n c → below (get_or l i 0) (get_or l c 0) ≡ false → Sifting start l lo n i → Heap below l lo n
  unfolding Heap
  sift_stop start l lo n i c w t s p d a b e f =
      ⊎_elim
      (λ (q : p ≡ i). up_at refl (ap (λ (k : ℕ). get_or l k 0) q)
      (up_trans below strict (get_or l d 0) (get_or l c 0) (get_or l i 0) (w.most d (omega arith) (omega arith) f) t))
      (λ (q : p ≡ i → ⊥). s.good.rest p d a q b e f)
      (equal p i)

  module _ (l : List ℕ) (lo n i c : ℕ) (w : Larger below l i n c) (t : below (get_or l i 0) (get_or l c 0) ≡ true) (past : lo ≤ i) (h : n ≤ length l) (g : Good l lo n i)
    where
      low : i < c
      low = omega (arith, w.low)

      within : c < length l
      within = omega (arith, w.within)

      -- the children of i, where the larger one stands now
      turn-here : (d : ℕ) → i * 2 + 1 ≤ d → d ≤ i * 2 + 2 → d < n → UpTo below (get_or (swap l i c 0) d 0) (get_or (swap l i c 0) i 0)
      turn-here d a b e =
          ⊎_elim
          (λ (q : d ≡ c). up_at (ap (λ (k : ℕ). get_or (swap l i c 0) k 0) q ∙ swap_second l i c low within) (swap_first l i c low within)
          (up-below below strict (get_or l i 0) (get_or l c 0) t))
          (λ (q : d ≡ c → ⊥). up_at (swap_other l i c low within d (λ r. omega arith) q) (swap_first l i c low within) (w.most d a b e))
          (equal d c)

      -- the children of another
      turn-there : (p d : ℕ) → lo ≤ p → (p ≡ i → ⊥) → (p ≡ c → ⊥) → p * 2 + 1 ≤ d → d ≤ p * 2 + 2 → d < n
          → UpTo below (get_or (swap l i c 0) d 0) (get_or (swap l i c 0) p 0)
      turn-there p d a q r b e f =
          ⊎_elim
          (λ (o : d ≡ i). up_at (ap (λ (k : ℕ). get_or (swap l i c 0) k 0) o ∙ swap_first l i c low within) (swap_other l i c low within p q r)
          (g.over p c a (omega arith) (omega arith) w.low w.high w.within))
          (λ (o : d ≡ i → ⊥). up_at (swap_other l i c low within d o (λ k. q (omega (arith, w.low, w.high)))) (swap_other l i c low within p q r) (g.rest p d a q b e f))
          (equal d i)

      turn-good : Good (swap l i c 0) lo n c
      turn-good = record {
        rest = λ p d a r b e f. ⊎_elim
            (λ (q : p ≡ i). up_at refl (ap (λ (k : ℕ). get_or (swap l i c 0) k 0) q) (turn-here d (omega arith) (omega arith) f))
            (λ (q : p ≡ i → ⊥). turn-there p d a q r b e f)
            (equal p i);
        over = λ q d a b e f k o.
            let z : q ≡ i = omega (arith, w.low, w.high) in
            up_at (swap_other l i c low within d (λ r. omega (arith, low)) (λ r. omega arith)) (ap (λ (k : ℕ). get_or (swap l i c 0) k 0) z ∙ swap_first l i c low within)
            (g.rest c d (omega (arith, low)) (λ r. omega (arith, low)) f k o);
      }

  -- it changes places with the larger child
  pub sift_turn : (start l : List ℕ) (lo n i c : ℕ) → Larger below l i n c → below (get_or l i 0) (get_or l c 0) ≡ true → n ≤ length start → Sifting start l lo n i
      → Sifting start (swap l i c 0) lo n c
  sift_turn start l lo n i c w t h s =
      let k : n ≤ length l = omega (arith, s.moved.size) in
      record {
        moved = moved_then start l (swap l i c 0) n s.moved (moved_swap l i c n (omega (arith, w.low)) w.within k);
        good = turn-good l lo n i c w t s.past k s.good;
        past = omega (arith, w.low, s.past);
      }

  -- ---- the larger child

  module _ (l : List ℕ) (i n : ℕ) where
    pub larger_only : i < n / 2 → n ≤ i * 2 + 2 → Larger below l i n (i * 2 + 1)
    larger_only h k = record {
      low = omega arith;
      high = omega arith;
      within = omega arith;
      most = λ d a b e. let z : d ≡ i * 2 + 1 = omega arith in up_at (ap (λ (k : ℕ). get_or l k 0) z) refl (strict.self (get_or l (i * 2 + 1) 0));
    }

    pair : (c : ℕ) → UpTo below (get_or l (i * 2 + 1) 0) (get_or l c 0) → UpTo below (get_or l (i * 2 + 2) 0) (get_or l c 0) → (d : ℕ) → i * 2 + 1 ≤ d → d ≤ i * 2 + 2
        → UpTo below (get_or l d 0) (get_or l c 0)
    pair c p q d a b =
        ⊎_elim (λ (e : d ≡ i * 2 + 1). up_at (ap (λ (k : ℕ). get_or l k 0) e) refl p)
        (λ (e : d ≡ i * 2 + 1 → ⊥). let z : d ≡ i * 2 + 2 = omega arith in up_at (ap (λ (k : ℕ). get_or l k 0) z) refl q)
        (equal d (i * 2 + 1))

    pub larger_right : i * 2 + 2 < n → below (get_or l (i * 2 + 1) 0) (get_or l (i * 2 + 2) 0) ≡ true → Larger below l i n (i * 2 + 2)
    larger_right h t = record {
      low = omega arith;
      high = omega arith;
      within = h;
      most = λ d a b e. pair (i * 2 + 2) (up-below below strict _ _ t) (strict.self _) d a b;
    }

    pub larger_left : i * 2 + 2 < n → below (get_or l (i * 2 + 1) 0) (get_or l (i * 2 + 2) 0) ≡ false → Larger below l i n (i * 2 + 1)
    larger_left h t = record {
      low = omega arith;
      high = omega arith;
      within = omega arith;
      most = λ d a b e. pair (i * 2 + 1) (strict.self _) t d a b;
    }

  -- ---- the heap is made

  pub record Heaping (start l : List ℕ) (k n : ℕ) : Type 0 where
    pub moved : Moved below start l n
    pub heap : Heap below l k n

  pub heap_start : (l : List ℕ) (n : ℕ) → Heaping l l (n / 2) n
  unfolding Heap
  heap_start l n = record { moved = moved_none l n; heap = λ p c a b d e. absurd (omega arith) }

  pub heap_turn : (start l m : List ℕ) (k j n : ℕ) → Heaping start l k n → Moved below l m n → Heap below m j n → Heaping start m j n
  heap_turn start l m k j n s p q = record { moved = moved_then start l m n s.moved p; heap = q }

  pub heap_less : (l : List ℕ) (k j n : ℕ) → k ≤ j → Heap below l k n → Heap below l j n
  unfolding Heap
  heap_less l k j n h f p c a b d e = f p c (omega arith) b d e

  -- the first element is the largest
  root_by : (l : List ℕ) (n : ℕ) → Heap below l 0 n → (f k : ℕ) → k < f → k < n → UpTo below (get_or l k 0) (get_or l 0 0)
  unfolding Heap
  root_by l n h zero k p q = absurd (omega arith)
  root_by l n h (suc f) zero p q = strict.self (get_or l 0 0)
  root_by l n h (suc f) (suc k) p q =
      up_trans below strict (get_or l (suc k) 0) (get_or l (k / 2) 0) (get_or l 0 0) (h (k / 2) (suc k) (omega arith) (omega arith) (omega arith) q)
      (root_by l n h f (k / 2) (omega arith) (omega arith))

  root : (l : List ℕ) (n k : ℕ) → Heap below l 0 n → k < n → UpTo below (get_or l k 0) (get_or l 0 0)
  root l n k h q = root_by l n h (suc k) k (omega arith) q

  -- ---- and taken apart

  pub record Settling (start l : List ℕ) (m : ℕ) : Type 0 where
    pub form : sort_by below l ≡ sort_by below start
    pub size : length l ≡ length start
    pub heap : Heap below l 0 m
    pub settled : Settled below l m

  pub settle-start : (l : List ℕ) → Heap below l 0 (length l) → Settling l l (length l)
  unfolding Settled
  settle-start l h = record { form = refl; size = refl; heap = h; settled = λ i j a b c. absurd (omega arith) }

  module _ (start l : List ℕ) (m : ℕ) (s : Settling start l (suc m)) (a : 0 < m) (b : m < length l) where
    -- the rest of the heap is a heap but for its first element
    settle_heap : Heap below (swap l 0 m 0) 1 m
    unfolding Heap
    settle_heap p c d e f g =
        up_at (swap_other l 0 m a b c (λ k. omega arith) (λ k. omega arith)) (swap_other l 0 m a b p (λ k. omega arith) (λ k. omega arith))
        (s.heap p c (omega arith) e f (omega arith))

    -- the largest is in its place
    settle-last : (i : ℕ) → i ≤ m → UpTo below (get_or (swap l 0 m 0) i 0) (get_or l 0 0)
    settle-last =
        swap_each l 0 m a b (λ k v. k ≤ m → UpTo below v (get_or l 0 0)) (λ _. root l (suc m) m s.heap (omega arith)) (λ _. strict.self (get_or l 0 0))
        (λ k _ _ d. root l (suc m) k s.heap (omega arith))

    settle-past : (j : ℕ) → m < j → j < length l → (i : ℕ) → i ≤ j → UpTo below (get_or (swap l 0 m 0) i 0) (get_or l j 0)
    unfolding Settled
    settle-past j c d =
        swap_each l 0 m a b (λ k v. k ≤ j → UpTo below v (get_or l j 0)) (λ _. s.settled m j (omega arith) (omega arith) d)
        (λ _. s.settled 0 j (omega arith) (omega arith) d)
        (λ k _ _ e. s.settled k j e (omega arith) d)

    swap_settled : Settled below (swap l 0 m 0) m
    unfolding Settled
    swap_settled i j c d e =
        let z : j < length l = omega (arith, swap_size l 0 m a b) in
        ⊎_elim
        (λ (q : j ≡ m). up_at refl (ap (λ (k : ℕ). get_or (swap l 0 m 0) k 0) q ∙ swap_second l 0 m a b) (settle-last i (omega arith)))
        (λ (q : j ≡ m → ⊥). up_at refl (swap_other l 0 m a b j (λ k. omega arith) q) (settle-past j (omega arith) z i c))
        (equal j m)

  -- what moves among the first m leaves the others in their places
  settled-moved : (l k : List ℕ) (m : ℕ) → Moved below l k m → Settled below l m → Settled below k m
  unfolding Settled
  settled-moved l k m p s i j a b c =
      let z : j < length l = omega (arith, p.size) in
      elim (dec_lt i m) [
        | yes q ↦ up_at refl (p.kept j b) (p.held (get_or l j 0) (λ o r. s o j (omega arith) b z) i q)
        | no q ↦ up_at (p.kept i (omega arith)) (p.kept j b) (s i j a b z)
      ]

  pub settle-turn : (start l k : List ℕ) (m : ℕ) → Settling start l (suc m) → 0 < m → m < length l → Moved below (swap l 0 m 0) k m → Heap below k 0 m
      → Settling start k m
  settle-turn start l k m s a b p h = record {
    form = p.form ∙ sort_swap below strict 0 l 0 m a b ∙ s.form;
    size = p.size ∙ swap_size l 0 m a b ∙ s.size;
    heap = h;
    settled = settled-moved (swap l 0 m 0) k m p (swap_settled start l m s a b);
  }

  -- the same from m on
  module _ (start l : List ℕ) (m : ℕ) (s : Settling start l m) (a : 1 < m) (b : m ≤ length l) where
    before : Settling start l (suc (m - 1))
    before = let z : m ≡ suc (m - 1) = omega arith in subst (λ (k : ℕ). Settling start l k) z s

    pub settle-rest : Heap below (swap l 0 (m - 1) 0) 1 (m - 1)
    settle-rest = settle_heap start l (m - 1) before (omega arith) (omega arith)

    pub settle-again : (k : List ℕ) → Moved below (swap l 0 (m - 1) 0) k (m - 1) → Heap below k 0 (m - 1) → Settling start k (m - 1)
    settle-again k p h = settle-turn start l k (m - 1) before (omega arith) (omega arith) p h

  -- all in place: the sorted list
  pub settle_end : (start l : List ℕ) (m : ℕ) → m ≤ 1 → Settling start l m → l ≡ sort_by below start
  unfolding Settled
  settle_end start l m h s = sym (sort-done below l (ascends-by below 0 l (λ i k. s.settled i (suc i) (omega arith) (omega arith) k))) ∙ s.form
