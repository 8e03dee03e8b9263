-- The laws of sorting by any strict total order: the sorted list is a permutation, ascends, and is the only such list.
-- Assumes nothing.
use mathlib.Core.Path.{◌≡◌, refl, sym, ap, subst, ◌∙◌}
use mathlib.Core.Bool.{Bool, true, false, false≢true}
use mathlib.Core.List.{List, [], ◌∷◌, ◌++◌, map, append-nil}
use mathlib.Core.List as core
use native.Mathlib.Nat.{not-suc-le-zero, le_of_suc-le-suc}
use native.Mathlib.Omega.{arith}
use native.Mathlib.Decide.{dec_lt}
use Prim.Native.Nat.{ℕ, zero, suc, ◌+◌, ◌-◌, ◌≤◌, ◌<◌}
use lib.ListN.{length, get_or, set, take, drop, drop_of_length-le}
use lib.Seq.{take_all}
use Rattle.ground.specs.Basics.{pick}
use Rattle.keys.specs.Strict.{Strict}
use Rattle.sorting.specs.Sort.{insert_by, sort_by, UpTo, Ascends, Perm, none, more, flip, then}

-- two elements exchanged
abbrev pub swap : {A : Type 0} → List A → ℕ → ℕ → A → List A
swap l i j d = set (set l i (get_or l j d)) j (get_or l i d)

pub perm_refl : {A : Type 0} (l : List A) → Perm l l
perm_refl [] = none
perm_refl (x ∷ xs) = more (perm_refl xs)

pub perm_sym : {A : Type 0} {l m : List A} → Perm l m → Perm m l
perm_sym none = none
perm_sym (more p) = more (perm_sym p)
perm_sym flip = flip
perm_sym (then p q) = then (perm_sym q) (perm_sym p)

pub perm_length : {A : Type 0} {l m : List A} → Perm l m → length l ≡ length m
perm_length none = refl
perm_length (more p) = ap suc (perm_length p)
perm_length flip = refl
perm_length (then p q) = perm_length p ∙ perm_length q

pub perm_map : {A B : Type 0} (f : A → B) {l m : List A} → Perm l m → Perm (map f l) (map f m)
perm_map f none = none
perm_map f (more p) = more (perm_map f p)
perm_map f flip = flip
perm_map f (then p q) = then (perm_map f p) (perm_map f q)

-- the library's permutations, whose laws callers may want besides
pub perm_plain : {A : Type 0} {l m : List A} → Perm l m → core.Perm l m
perm_plain none = mathlib.Core.List.Perm.nil
perm_plain (more {x} p) = mathlib.Core.List.Perm.cons x (perm_plain p)
perm_plain (flip {x} {y} {xs}) = mathlib.Core.List.Perm.swap y x xs
perm_plain (then p q) = mathlib.Core.List.Perm.trans (perm_plain p) (perm_plain q)

module _ {A : Type 0} (below : A → A → Bool) where
  insert_perm : (x : A) (l : List A) → Perm (insert_by below x l) (x ∷ l)
  unfolding insert_by
  insert_perm x [] = perm_refl (x ∷ [])
  insert_perm x (y ∷ ys) = go (below y x) (insert_perm x ys)
    where
      go : (t : Bool) → Perm (insert_by below x ys) (x ∷ ys) → Perm (pick t (y ∷ insert_by below x ys) (x ∷ y ∷ ys)) (x ∷ y ∷ ys)
      go true ih = then (more ih) flip
      go false ih = perm_refl (x ∷ y ∷ ys)

  -- the sorted list has the same elements
  pub sort_perm : (l : List A) → Perm (sort_by below l) l
  unfolding sort_by
  sort_perm [] = none
  sort_perm (x ∷ xs) = then (insert_perm x (sort_by below xs)) (more (sort_perm xs))

  pub sort-length : (l : List A) → length (sort_by below l) ≡ length l
  sort-length l = perm_length (sort_perm l)

  -- a list with no more than n elements is its own front
  pub sort-whole : (l : List A) (n : ℕ) → length l ≤ n → sort_by below l ≡ sort_by below (take n l) ++ drop n l
  sort-whole l n h = rw (take_all n l h, drop_of_length-le l {i = n} h) (sym (append-nil (sort_by below l)))

  -- a list that ascends is sorted already
  pub sort-done : (l : List A) → Ascends below l → sort_by below l ≡ l
  unfolding sort_by insert_by Ascends
  sort-done [] h = refl
  sort-done (x ∷ []) h = refl
  sort-done (x ∷ y ∷ ys) h = rw (sort-done (y ∷ ys) h.1) (rw h.0 refl)

  -- by elements: each is not below the one before it
  pub ascends-by : (d : A) (l : List A) → ((i : ℕ) → suc i < length l → UpTo below (get_or l i d) (get_or l (suc i) d)) → Ascends below l
  unfolding Ascends
  ascends-by d [] h = tt
  ascends-by d (x ∷ []) h = tt
  ascends-by d (x ∷ y ∷ ys) h = (h 0 (omega arith), ascends-by d (y ∷ ys) (λ i k. h (suc i) (omega arith)))

  -- each of the elements before i is not below the one before it
  abbrev pub RisesTo : A → List A → ℕ → Type 0
  RisesTo d l i = (j : ℕ) → suc j < i → UpTo below (get_or l j d) (get_or l (suc j) d)

  pub rises-start : (d : A) (l : List A) → RisesTo d l 1
  rises-start d l j q = absurd (omega arith)

  pub rises-turn : (d : A) (l : List A) (i : ℕ) → 1 ≤ i → RisesTo d l i → UpTo below (get_or l (i - 1) d) (get_or l i d) → RisesTo d l (i + 1)
  rises-turn d l i p h u j q =
      elim (dec_lt (suc j) i) [
        | yes r ↦ h j r
        | no r ↦ (
            let a : i - 1 ≡ j = omega arith in
            let b : i ≡ suc j = omega arith in
            subst (λ (m : ℕ). UpTo below (get_or l j d) (get_or l m d)) b (subst (λ (m : ℕ). UpTo below (get_or l m d) (get_or l i d)) a u))
      ]

  pub rises_end : (d : A) (l : List A) (i : ℕ) → length l ≤ i → RisesTo d l i → Ascends below l
  rises_end d l i p h = ascends-by d l (λ j q. h j (omega arith))

  module _ (strict : Strict below) where
    not_both : {x : A} {y : A} → below x y ≡ true → below x y ≡ false → ⊥
    not_both p q = false≢true (sym q ∙ p)

    -- what is below stands up to
    pub up-below : (x y : A) → below x y ≡ true → UpTo below x y
    up-below x y p = go (below y x) refl
      where
        go : (t : Bool) → below y x ≡ t → t ≡ false
        go true q = absurd (not_both (strict.chain x y x p q) (strict.self x))
        go false q = refl

    -- up to, and then below, is below; below, and then up to, is below
    pub up-then-below : (x y z : A) → UpTo below x y → below y z ≡ true → below x z ≡ true
    up-then-below x y z p q = go (below x y) refl
      where
        go : (t : Bool) → below x y ≡ t → below x z ≡ true
        go true r = strict.chain x y z r q
        go false r = rw (strict.one x y r p) q

    pub below-then-up : (x y z : A) → below x y ≡ true → UpTo below y z → below x z ≡ true
    below-then-up x y z p q = go (below y z) refl
      where
        go : (t : Bool) → below y z ≡ t → below x z ≡ true
        go true r = strict.chain x y z p r
        go false r = rw (sym (strict.one y z r q)) p

    pub up_trans : (x y z : A) → UpTo below x y → UpTo below y z → UpTo below x z
    up_trans x y z p q = go (below z x) refl
      where
        go : (t : Bool) → below z x ≡ t → t ≡ false
        go true r = absurd (not_both (below-then-up z x y r p) q)
        go false r = refl

    -- ---- the sorted list ascends

    insert-after : (x y : A) (l : List A) → UpTo below y x → Ascends below (y ∷ l) → Ascends below (y ∷ insert_by below x l)
    unfolding insert_by Ascends
    insert-after x y [] h a = (h, tt)
    insert-after x y (z ∷ l) h a = go (below z x) refl (λ k. insert-after x z l k a.1)
      where
        go : (t : Bool) → below z x ≡ t → (UpTo below z x → Ascends below (z ∷ insert_by below x l)) → Ascends below (y ∷ pick t (z ∷ insert_by below x l) (x ∷ z ∷ l))
        go true e ih = (a.0, ih (up-below z x e))
        go false e ih = (h, (e, a.1))

    insert-ascends : (x : A) (l : List A) → Ascends below l → Ascends below (insert_by below x l)
    unfolding insert_by Ascends
    insert-ascends x [] a = tt
    insert-ascends x (y ∷ l) a = go (below y x) refl
      where
        go : (t : Bool) → below y x ≡ t → Ascends below (pick t (y ∷ insert_by below x l) (x ∷ y ∷ l))
        go true e = insert-after x y l (up-below y x e) a
        go false e = (e, a)

    pub sort-ascends : (l : List A) → Ascends below (sort_by below l)
    unfolding sort_by Ascends
    sort-ascends [] = tt
    sort-ascends (x ∷ xs) = insert-ascends x (sort_by below xs) (sort-ascends xs)

    -- ---- it does not hang on the order of the elements

    two : (x y : A) (l : List A) → pick (below y x) (y ∷ x ∷ l) (x ∷ y ∷ l) ≡ pick (below x y) (x ∷ y ∷ l) (y ∷ x ∷ l)
    two x y l = go (below y x) refl (below x y) refl
      where
        go : (s : Bool) → below y x ≡ s → (t : Bool) → below x y ≡ t → pick s (y ∷ x ∷ l) (x ∷ y ∷ l) ≡ pick t (x ∷ y ∷ l) (y ∷ x ∷ l)
        go true p true q = absurd (not_both (strict.chain x y x q p) (strict.self x))
        go true p false q = refl
        go false p true q = refl
        go false p false q = rw (strict.one x y q p) refl

    insert-insert : (x y : A) (l : List A) → insert_by below x (insert_by below y l) ≡ insert_by below y (insert_by below x l)
    unfolding insert_by
    insert-insert x y [] = two x y []
    insert-insert x y (z ∷ l) = go (below z x) refl (below z y) refl (insert-insert x y l)
      where
        go : (s : Bool) → below z x ≡ s → (t : Bool) → below z y ≡ t → insert_by below x (insert_by below y l) ≡ insert_by below y (insert_by below x l)
            → insert_by below x (pick t (z ∷ insert_by below y l) (y ∷ z ∷ l)) ≡ insert_by below y (pick s (z ∷ insert_by below x l) (x ∷ z ∷ l))
        go true p true q ih = rw (p, q, ih) refl
        go true p false q ih = rw (up-then-below y z x q p, p, q) refl
        go false p true q ih = rw (up-then-below x z y p q, p, q) refl
        go false p false q ih = rw (p, q) (two x y (z ∷ l))

    -- permutations have one sorted list
    pub perm_sort : {l m : List A} → Perm l m → sort_by below l ≡ sort_by below m
    unfolding sort_by
    perm_sort none = refl
    perm_sort (more {x} p) = ap (insert_by below x) (perm_sort p)
    perm_sort (flip {x} {y} {xs}) = insert-insert x y (sort_by below xs)
    perm_sort (then p q) = perm_sort p ∙ perm_sort q

    -- two permutations of one another that ascend are one list
    pub ascends-once : {l m : List A} → Perm l m → Ascends below l → Ascends below m → l ≡ m
    ascends-once {l} {m} p a b = sym (sort-done l a) ∙ perm_sort p ∙ sort-done m b

    -- so the sorted list is the only permutation that ascends
    pub sort-only : (l m : List A) → Perm m l → Ascends below m → m ≡ sort_by below l
    sort-only l m p a = sym (sort-done m a) ∙ perm_sort p

    -- ---- exchanging two elements

    sort-put : (d x : A) (l : List A) (j : ℕ) → j < length l → sort_by below (get_or l j d ∷ set l j x) ≡ sort_by below (x ∷ l)
    unfolding sort_by
    sort-put d x [] j h = absurd (not-suc-le-zero h)
    sort-put d x (y ∷ l) zero h = insert-insert y x (sort_by below l)
    sort-put d x (y ∷ l) (suc j) h =
        insert-insert (get_or l j d) y (sort_by below (set l j x)) ∙ ap (insert_by below y) (sort-put d x l j (le_of_suc-le-suc h))
        ∙ insert-insert y x (sort_by below l)

    pub sort_swap : (d : A) (l : List A) (i j : ℕ) → i < j → j < length l → sort_by below (swap l i j d) ≡ sort_by below l
    unfolding sort_by
    sort_swap d [] i j p h = absurd (not-suc-le-zero h)
    sort_swap d (x ∷ l) i zero p h = absurd (not-suc-le-zero p)
    sort_swap d (x ∷ l) zero (suc j) p h = sort-put d x l j (le_of_suc-le-suc h)
    sort_swap d (x ∷ l) (suc i) (suc j) p h = ap (insert_by below x) (sort_swap d l i j (le_of_suc-le-suc p) (le_of_suc-le-suc h))

    -- ---- the elements of a list that ascends, by place

    ascends-from : (d x : A) (l : List A) → Ascends below (x ∷ l) → (j : ℕ) → j < length (x ∷ l) → UpTo below x (get_or (x ∷ l) j d)
    unfolding Ascends
    ascends-from d x l a zero h = strict.self x
    ascends-from d x [] a (suc j) h = absurd (omega arith)
    ascends-from d x (y ∷ l) a (suc j) h = up_trans x y (get_or (y ∷ l) j d) a.0 (ascends-from d y l a.1 j (omega arith))

    -- none is below one before it
    pub ascends_pair : (d : A) (l : List A) → Ascends below l → (i j : ℕ) → i ≤ j → j < length l → UpTo below (get_or l i d) (get_or l j d)
    unfolding Ascends
    ascends_pair d [] a i j p h = absurd (omega arith)
    ascends_pair d (x ∷ l) a zero j p h = ascends-from d x l a j h
    ascends_pair d (x ∷ l) a (suc i) zero p h = absurd (omega arith)
    ascends_pair d (x ∷ []) a (suc i) (suc j) p h = absurd (omega arith)
    ascends_pair d (x ∷ y ∷ l) a (suc i) (suc j) p h = ascends_pair d (y ∷ l) a.1 i j (omega arith) (omega arith)
