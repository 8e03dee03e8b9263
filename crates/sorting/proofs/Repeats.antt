-- What callers ask of a sorted list: it has the elements of the list, each as often; equal keys stand side by side, the
-- earlier element first; and along it the keys never fall. Assumes nothing.
use mathlib.Core.Path.{◌≡◌, refl, sym, ap, ◌∙◌}
use mathlib.Core.Logic.{◌⊎◌, inl, inr, ⊎_elim}
use mathlib.Core.Bool.{Bool, true, false, false≢true, ◌||◌}
use mathlib.Core.List.Memᴰ
use mathlib.Core.List.{List, [], ◌∷◌, Memᴰ}
use native.Mathlib.Omega.{arith}
use native.Mathlib.Nat.{not-suc-le-zero, le_of_suc-le-suc}
use native.Mathlib.Decide.{dec_lt}
use Prim.Native.Nat.{ℕ, zero, suc, ◌≤◌, ◌<◌}
use lib.Dec.{ltb}
use lib.ListN.{length, get_or}
use borrow.Author.Tests.{lt-ltb, ltb-false}
use Rattle.order.specs.Order.{name_order, opposite}
use Rattle.order.proofs.Laws.{order_self, order_flip}
use Rattle.ground.specs.Scan.{same_bytes}
use Rattle.ground.proofs.Laws.{equal, same_test, same_true, same_refl}
use Rattle.sorting.specs.Sort.{sort_by, UpTo, Ascends, Perm, none, more, flip, then}
use Rattle.keys.specs.Key.{decide, below_by}
use Rattle.sorting.specs.Repeats.{has, repeats, touches}
use Rattle.sorting.proofs.Sorted.{up_trans, perm_sym, sort_perm, sort-ascends, ascends_pair}
use Rattle.keys.proofs.Keys.{plain-same, key_strict}
use Rattle.std.specs.declared.cmp.Ordering.{Ordering}
use Rattle.std.specs.declared.cmp.Ordering.TheVariants.{Equal, Greater, Less}

-- ---- members

module _ {A : Type 0} where
  pub perm_mem : {a : A} {l m : List A} → Perm l m → Memᴰ a l → Memᴰ a m
  perm_mem none h = h
  perm_mem (more p) h = ⊎_elim (λ e. Memᴰ.head e) (λ k. Memᴰ.tail (perm_mem p k)) (Memᴰ.cases_cons h)
  perm_mem flip h =
      ⊎_elim (λ e. Memᴰ.tail (Memᴰ.head e))
      (λ k. ⊎_elim (λ e. Memᴰ.head e) (λ o. Memᴰ.tail (Memᴰ.tail o)) (Memᴰ.cases_cons k))
      (Memᴰ.cases_cons h)
  perm_mem (then p q) h = perm_mem q (perm_mem p h)

  -- no element stands twice
  unfoldable pub Once : List A → Type 0
  Once [] = Unit
  Once (x ∷ xs) = (Memᴰ x xs → ⊥) × Once xs

  pub perm_once : {l m : List A} → Perm l m → Once l → Once m
  unfolding Once
  perm_once none o = o
  perm_once (more p) o = ((λ h. o.0 (perm_mem (perm_sym p) h)), perm_once p o.1)
  perm_once flip o =
      ((λ h. ⊎_elim (λ e. o.0 (Memᴰ.head (sym e))) (λ k. o.1.0 k) (Memᴰ.cases_cons h)), ((λ h. o.0 (Memᴰ.tail h)), o.1.1))
  perm_once (then p q) o = perm_once q (perm_once p o)

  -- a member stands somewhere, and what stands somewhere is a member
  pub mem-place : (d a : A) (l : List A) → Memᴰ a l → (i : ℕ) × (i < length l) × (get_or l i d ≡ a)
  mem-place d a [] h = absurd (Memᴰ.not-nil h)
  mem-place d a (x ∷ l) h =
      ⊎_elim (λ e. (0, omega arith, sym e)) (λ k. let w = mem-place d a l k in (suc w.0, omega arith, w.2)) (Memᴰ.cases_cons h)

  pub place-mem : (d : A) (l : List A) (i : ℕ) → i < length l → Memᴰ (get_or l i d) l
  place-mem d [] i h = absurd (not-suc-le-zero h)
  place-mem d (x ∷ l) zero h = Memᴰ.head refl
  place-mem d (x ∷ l) (suc i) h = Memᴰ.tail (place-mem d l i (le_of_suc-le-suc h))

  pub once-place : (d : A) (l : List A) → Once l → (i j : ℕ) → i < j → j < length l → get_or l i d ≡ get_or l j d → ⊥
  unfolding Once
  once-place d [] o i j p h e = not-suc-le-zero h
  once-place d (x ∷ l) o i zero p h e = not-suc-le-zero p
  once-place d (x ∷ l) o zero (suc j) p h e = o.0 (rw e (place-mem d l j (le_of_suc-le-suc h)))
  once-place d (x ∷ l) o (suc i) (suc j) p h e = once-place d l o.1 i j (le_of_suc-le-suc p) (le_of_suc-le-suc h) e

module _ (key : ℕ → List ℕ) where
  -- ---- two elements, the second not below the first

  -- the keys do not fall
  pub up_keys : (x y : ℕ) → UpTo (below_by key) x y → name_order (key y) false (key x) false ≡ Less → ⊥
  unfolding below_by
  up_keys x y u e = false≢true (sym u ∙ ap (λ (o : Ordering). decide o (ltb y x)) e)

  -- of one key the element is not smaller
  pub up_same : (x y : ℕ) → UpTo (below_by key) x y → key x ≡ key y → x ≤ y
  unfolding below_by
  up_same x y u e =
      let z : name_order (key y) false (key x) false ≡ Equal = rw e (order_self (key y) false) in
      ltb-false y x (ap (λ (o : Ordering). decide o (ltb y x)) (sym z) ∙ u)

  -- of one key the smaller element is below the other
  pub same-below : (x y : ℕ) → key x ≡ key y → x < y → below_by key x y ≡ true
  unfolding below_by
  same-below x y e h = rw e (ap (λ (o : Ordering). decide o (ltb x y)) (order_self (key y) false) ∙ lt-ltb x y h)

  -- what stands between two of one key has that key
  pub between : (x y z : ℕ) → UpTo (below_by key) x y → UpTo (below_by key) y z → key x ≡ key z → key y ≡ key z
  between x y z u v e = go (name_order (key y) false (key z) false) refl
    where
      go : (o : Ordering) → name_order (key y) false (key z) false ≡ o → key y ≡ key z
      go Less f = absurd (up_keys x y u (rw e f))
      go Equal f = plain-same (key y) (key z) f
      go Greater f = absurd (up_keys y z v (order_flip (key y) false (key z) false ∙ ap opposite f))

  -- ---- in the sorted list

  module _ (l : List ℕ) where
    sorted : (i j : ℕ) → i ≤ j → j < length (sort_by (below_by key) l) → UpTo (below_by key) (get_or (sort_by (below_by key) l) i 0) (get_or (sort_by (below_by key) l) j 0)
    sorted = ascends_pair (below_by key) (key_strict key) 0 (sort_by (below_by key) l) (sort-ascends (below_by key) (key_strict key) l)

    -- the sorted list has an element exactly where the list has it
    pub sorted-mem : (x : ℕ) → Memᴰ x l → Memᴰ x (sort_by (below_by key) l)
    sorted-mem x h = perm_mem (perm_sym (sort_perm (below_by key) l)) h

    pub mem-sorted : (x : ℕ) → Memᴰ x (sort_by (below_by key) l) → Memᴰ x l
    mem-sorted x h = perm_mem (sort_perm (below_by key) l) h

    -- an element that repeats the key of a smaller one stands right after one of that key
    pub repeat_next : (x y : ℕ) → Memᴰ x l → Memᴰ y l → x < y → key x ≡ key y
        → (i : ℕ) × (suc i < length (sort_by (below_by key) l)) × (get_or (sort_by (below_by key) l) (suc i) 0 ≡ y) × (key (get_or (sort_by (below_by key) l) i 0) ≡ key y)
    repeat_next x y p q h e = go (mem-place 0 x (sort_by (below_by key) l) (sorted-mem x p)) (mem-place 0 y (sort_by (below_by key) l) (sorted-mem y q))
      where
        at : (a b : ℕ) → a < b → b < length (sort_by (below_by key) l) → get_or (sort_by (below_by key) l) a 0 ≡ x → get_or (sort_by (below_by key) l) b 0 ≡ y
            → (i : ℕ) × (suc i < length (sort_by (below_by key) l)) × (get_or (sort_by (below_by key) l) (suc i) 0 ≡ y) × (key (get_or (sort_by (below_by key) l) i 0) ≡ key y)
        at a zero k m f g = absurd (omega arith)
        at a (suc b) k m f g =
            (b, m, g, between x (get_or (sort_by (below_by key) l) b 0) y (rw f at (sorted a b (omega arith) (omega arith))) (rw g at (sorted b (suc b) (omega arith) m)) e)

        go : (i : ℕ) × (i < length (sort_by (below_by key) l)) × (get_or (sort_by (below_by key) l) i 0 ≡ x) → (j : ℕ) × (j < length (sort_by (below_by key) l)) × (get_or (sort_by (below_by key) l) j 0 ≡ y)
            → (i : ℕ) × (suc i < length (sort_by (below_by key) l)) × (get_or (sort_by (below_by key) l) (suc i) 0 ≡ y) × (key (get_or (sort_by (below_by key) l) i 0) ≡ key y)
        go v w =
            elim (dec_lt v.0 w.0) [
              | yes k ↦ at v.0 w.0 k w.1 v.2 w.2
              | no k ↦ absurd (false≢true (sym (rw (w.2, v.2) at (sorted w.0 v.0 (omega arith) v.1)) ∙ same-below x y e h))
            ]

    -- neighbours of one key are two elements of the list, the smaller first, where none stands twice
    pub next_repeat : Once l → (i : ℕ) → suc i < length (sort_by (below_by key) l)
        → key (get_or (sort_by (below_by key) l) i 0) ≡ key (get_or (sort_by (below_by key) l) (suc i) 0)
        → Memᴰ (get_or (sort_by (below_by key) l) i 0) l
        × Memᴰ (get_or (sort_by (below_by key) l) (suc i) 0) l
        × (get_or (sort_by (below_by key) l) i 0 < get_or (sort_by (below_by key) l) (suc i) 0)
    next_repeat o i h e =
        let n = once-place 0 (sort_by (below_by key) l) (perm_once (perm_sym (sort_perm (below_by key) l)) o) i (suc i) (omega arith) h in
        let m = up_same (get_or (sort_by (below_by key) l) i 0) (get_or (sort_by (below_by key) l) (suc i) 0) (sorted i (suc i) (omega arith) h) e in (
          mem-sorted _ (place-mem 0 (sort_by (below_by key) l) i (omega arith)),
          mem-sorted _ (place-mem 0 (sort_by (below_by key) l) (suc i) h),
          ⊎_elim (λ z. absurd (n z)) (λ (k : get_or (sort_by (below_by key) l) i 0 ≡ get_or (sort_by (below_by key) l) (suc i) 0 → ⊥). omega arith)
              (equal (get_or (sort_by (below_by key) l) i 0) (get_or (sort_by (below_by key) l) (suc i) 0)),
        )

-- ---- whether any key repeats

or-true : (a b : Bool) → (a || b) ≡ true → (a ≡ true) ⊎ (b ≡ true)
or-true true b h = inl refl
or-true false b h = inr h

or_flip : (a b c d e : Bool) → a ≡ b → ((a || c) || (d || e)) ≡ ((b || d) || (c || e))
or_flip true b c d e h = rw (sym h) refl
or_flip false b true true e h = rw (sym h) refl
or_flip false b true false e h = rw (sym h) refl
or_flip false b false true e h = rw (sym h) refl
or_flip false b false false e h = rw (sym h) refl

or_swap : (a b c : Bool) → (a || (b || c)) ≡ (b || (a || c))
or_swap true true c = refl
or_swap true false c = refl
or_swap false b c = refl

module _ {A : Type 0} (same : A → A → Bool) where
  has_perm : (x : A) {l m : List A} → Perm l m → has same x l ≡ has same x m
  unfolding has
  has_perm x none = refl
  has_perm x (more {x = y} p) = ap (λ (b : Bool). same x y || b) (has_perm x p)
  has_perm x (flip {x = y} {y = z} {xs = l}) = or_swap (same x y) (same x z) (has same x l)
  has_perm x (then p q) = has_perm x p ∙ has_perm x q

  -- it does not hang on the order of the elements
  pub repeats_perm : ((x y : A) → same x y ≡ same y x) → {l m : List A} → Perm l m → repeats same l ≡ repeats same m
  unfolding repeats has
  repeats_perm s none = refl
  repeats_perm s (more {x} p) = rw (has_perm x p, repeats_perm s p) refl
  repeats_perm s (flip {x} {y} {xs = l}) = or_flip (same x y) (same y x) (has same x l) (has same y l) (repeats same l) (s x y)
  repeats_perm s (then p q) = repeats_perm s p ∙ repeats_perm s q

module _ (key : ℕ → List ℕ) where
  -- two elements of one key
  abbrev pub same_key : ℕ → ℕ → Bool
  same_key x y = same_bytes (key x) (key y)

  same-sym : (x y : ℕ) → same_bytes (key x) (key y) ≡ same_bytes (key y) (key x)
  same-sym x y = same_test _ _ (turn (key x) (key y)) (turn (key y) (key x))
    where
      turn : (a b : List ℕ) → same_bytes a b ≡ true → same_bytes b a ≡ true
      turn a b e = rw (same_true a b e) (same_refl b)

  near : (x y z : ℕ) → UpTo (below_by key) x y → UpTo (below_by key) y z → same_bytes (key x) (key z) ≡ true → same_bytes (key x) (key y) ≡ true
  near x y z u v e =
      let f : key x ≡ key z = same_true (key x) (key z) e in
      let g : key y ≡ key x = between key x y z u v f ∙ sym f in
      rw g (same_refl (key x))

  has_near : (x y : ℕ) (l : List ℕ) → Ascends (below_by key) (x ∷ y ∷ l) → has same_key x l ≡ true → same_bytes (key x) (key y) ≡ true
  unfolding has Ascends
  has_near x y [] a h = absurd (false≢true h)
  has_near x y (z ∷ l) a h =
      near x y z a.0 a.1.0
      (⊎_elim (λ e. e) (λ e. has_near x z l (up_trans (below_by key) (key_strict key) x y z a.0 a.1.0, a.1.1) e)
      (or-true (same_bytes (key x) (key z)) (has same_key x l) h))

  touches_all : (l : List ℕ) → Ascends (below_by key) l → touches same_key l ≡ repeats same_key l
  unfolding touches repeats has Ascends
  touches_all [] a = refl
  touches_all (x ∷ []) a = refl
  touches_all (x ∷ y ∷ l) a = go (same_bytes (key x) (key y)) refl (has same_key x l) refl (touches_all (y ∷ l) a.1)
    where
      go : (s : Bool) → same_bytes (key x) (key y) ≡ s → (t : Bool) → has same_key x l ≡ t → touches same_key (y ∷ l) ≡ repeats same_key (y ∷ l)
          → (s || touches same_key (y ∷ l)) ≡ ((s || t) || repeats same_key (y ∷ l))
      go true p t q ih = refl
      go false p true q ih = absurd (false≢true (sym p ∙ has_near x y l a q))
      go false p false q ih = ih

  -- two elements of a list have one key exactly where two neighbours of the sorted list have
  pub touches-sorted : (l : List ℕ) → touches same_key (sort_by (below_by key) l) ≡ repeats same_key l
  touches-sorted l =
      touches_all (sort_by (below_by key) l) (sort-ascends (below_by key) (key_strict key) l) ∙ repeats_perm same_key same-sym (sort_perm (below_by key) l)
