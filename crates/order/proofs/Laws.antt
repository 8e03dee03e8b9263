-- The laws of Git's order of names: where it is decided, that it is an order, and when two names are Same. Assumes nothing.
use mathlib.Core.Path.{◌≡◌, refl, sym, ap, ◌∙◌}
use mathlib.Core.Logic.{◌⊎◌, inl, inr, ⊎_elim}
use mathlib.Core.Bool.{Bool, true, false, false≢true, ◌&&◌, not}
use mathlib.Core.List.{List, [], ◌∷◌, ◌++◌}
use Prim.Native.Nat.{ℕ, suc, ◌+◌, ◌≤◌, ◌<◌}
use native.Mathlib.Numerals.{add-one}
use native.Mathlib.Decide.{dec_lt}
use native.Mathlib.Omega.{arith}
use lib.IntN.{nat_abs, pos-ne-negsuc}
use lib.ListN.{length, get_or, drop, drop_of_length-le}
use lib.Dec.{eqb}
use lib.Seq.{drop-cons}
use borrow.Author.Tests.{lt-ltb, le-ltb, eq-eqb}
use Rattle.ground.specs.Scan.{common_start, free_of}
use Rattle.ground.proofs.Laws.{common_same, common_differ, common_off, equal}
use Rattle.order.specs.Order.{by_number, then_by, is_below, opposite, next, name_order, order_number}
use Rattle.std.specs.declared.cmp.Ordering.{Ordering}
use Rattle.std.specs.declared.cmp.Ordering.TheVariants.{Equal, Greater, Less}

pub below-is : (o : Ordering) → is_below o ≡ true → o ≡ Less
below-is Less e = refl
below-is Equal e = absurd (false≢true e)
below-is Greater e = absurd (false≢true e)

-- ---- two numbers

-- the numbers compared are those that were meant
pub by_both : (x y u v : ℕ) (o : Ordering) → o ≡ by_number x y → x ≡ u → y ≡ v → o ≡ by_number u v
by_both x y u v o e f g = e ∙ ap (λ (z : ℕ). by_number z y) f ∙ ap (by_number u) g

pub by_lt : {x y : ℕ} → x < y → by_number x y ≡ Less
unfolding by_number
by_lt {x} {y} h = simp (lt-ltb x y h)

pub by_gt : {x y : ℕ} → y < x → by_number x y ≡ Greater
unfolding by_number
by_gt {x} {y} h = let g : y ≤ x = omega arith in simp (le-ltb x y g, lt-ltb y x h)

pub by-eq : {x y : ℕ} → x ≡ y → by_number x y ≡ Equal
unfolding by_number
by-eq {x} {y} h =
    let g : y ≤ x = omega arith in
    let k : x ≤ y = omega arith in
    simp (le-ltb x y g, le-ltb y x k)

-- no two of the three answers are one
below≢same : {p : Ordering} → p ≡ Less → p ≡ Equal → ⊥
below≢same e f = let z : ◌≡◌ {A = ℕ} 0 1 = cc in omega arith

above≢below : {p : Ordering} → p ≡ Greater → p ≡ Less → ⊥
above≢below e f = let z : ◌≡◌ {A = ℕ} 0 1 = cc in omega arith

above≢same : {p : Ordering} → p ≡ Greater → p ≡ Equal → ⊥
above≢same e f = let z : ◌≡◌ {A = ℕ} 0 1 = cc in omega arith

-- of two numbers one is less, or they are equal
three : (x y : ℕ) → (x < y) ⊎ ((x ≡ y) ⊎ (y < x))
three x y = elim (dec_lt x y) [
  | yes h ↦ inl h
  | no h ↦ elim (dec_lt y x) [ yes k ↦ inr (inr k) | no k ↦ inr (inl (omega arith)) ]
]

pub by-below : {x y : ℕ} → by_number x y ≡ Less → x < y
by-below {x} {y} h =
    ⊎_elim (λ k. k) (⊎_elim (λ k. absurd (below≢same h (by-eq k))) (λ k. absurd (above≢below (by_gt k) h))) (three x y)

pub by-same : {x y : ℕ} → by_number x y ≡ Equal → x ≡ y
by-same {x} {y} h =
    ⊎_elim (λ k. absurd (below≢same (by_lt k) h)) (⊎_elim (λ k. k) (λ k. absurd (above≢same (by_gt k) h))) (three x y)

pub by_above : {x y : ℕ} → by_number x y ≡ Greater → y < x
by_above {x} {y} h =
    ⊎_elim (λ k. absurd (above≢below h (by_lt k))) (⊎_elim (λ k. absurd (above≢same h (by-eq k))) (λ k. k)) (three x y)

by-flip : (x y : ℕ) → by_number y x ≡ opposite (by_number x y)
by-flip x y =
    ⊎_elim (λ k. by_gt k ∙ sym (ap opposite (by_lt k)))
    (⊎_elim (λ k. by-eq (sym k) ∙ sym (ap opposite (by-eq k))) (λ k. by_lt k ∙ sym (ap opposite (by_gt k))))
    (three x y)

-- ---- where it is decided

-- what stands at i of a name
pub next-byte : (s : List ℕ) (i : ℕ) (folder : Bool) → i < length s → next (drop i s) folder ≡ get_or s i 0 + 1
unfolding next
next-byte s i folder h = rw (drop-cons s i 0, add-one)

pub next_past : (s : List ℕ) (i : ℕ) (folder : Bool) → length s ≤ i → next (drop i s) folder ≡ next [] folder
next_past s i folder h = rw drop_of_length-le

-- first bytes that differ decide
differ : (x y : ℕ) (rest : Ordering) → (x ≡ y → ⊥) → then_by (by_number x y) rest ≡ by_number (suc x) (suc y)
differ x y rest n =
    ⊎_elim (λ h. rw (by_lt {x = x} {y = y} h) (sym (by_lt (omega arith))))
    (⊎_elim (λ e. absurd (n e)) (λ h. rw (by_gt {x = x} {y = y} h) (sym (by_gt (omega arith)))))
    (three x y)

-- the order is decided at the one position past what the names share at their start
pub order_decided : (a : List ℕ) (s : Bool) (b : List ℕ) (t : Bool)
    → name_order a s b t ≡ by_number (next (drop (common_start a b) a) s) (next (drop (common_start a b) b) t)
unfolding common_start name_order next
order_decided [] s [] t = refl
order_decided [] s (y ∷ b) t = refl
order_decided (x ∷ a) s [] t = refl
order_decided (x ∷ a) s (y ∷ b) t =
    ⊎_elim (λ e. rw (common_same x a y b e, by-eq e) (order_decided a s b t))
    (λ n. rw (common_differ x a y b n) (differ x y (name_order a s b t) n))
    (equal x y)

-- where both go on there, by their bytes
module _ (a : List ℕ) (s : Bool) (b : List ℕ) (t : Bool) (i : ℕ) (e : i ≡ common_start a b) where
  pub decided_at : name_order a s b t ≡ by_number (next (drop i a) s) (next (drop i b) t)
  decided_at = rw e (order_decided a s b t)

  module _ (h : i < length a) (k : i < length b) where
    by_bytes : name_order a s b t ≡ by_number (get_or a i 0 + 1) (get_or b i 0 + 1)
    by_bytes = decided_at ∙ rw (next-byte a i s h, next-byte b i t k)

    pub byte-below : get_or a i 0 < get_or b i 0 → name_order a s b t ≡ Less
    byte-below l = by_bytes ∙ by_lt (omega arith)

    pub byte_above : get_or b i 0 ≤ get_or a i 0 → name_order a s b t ≡ Greater
    byte_above l =
        let d : get_or a i 0 ≡ get_or b i 0 → ⊥ = rw e (common_off a b (rw (sym e) h) (rw (sym e) k)) in
        by_bytes ∙ by_gt (⊎_elim (λ m. absurd (d m)) (λ n. omega arith) (equal (get_or a i 0) (get_or b i 0)))

-- ---- it is an order, of all names

else_flip : (p r : Ordering) → then_by (opposite p) (opposite r) ≡ opposite (then_by p r)
else_flip Less r = refl
else_flip Equal r = refl
else_flip Greater r = refl

else_same : (p r : Ordering) → then_by p r ≡ Equal → (p ≡ Equal) × (r ≡ Equal)
else_same Less r h = absurd (below≢same refl h)
else_same Equal r h = (refl, h)
else_same Greater r h = absurd (above≢same refl h)

else_below : (p r : Ordering) → then_by p r ≡ Less → (p ≡ Less) ⊎ ((p ≡ Equal) × (r ≡ Less))
else_below Less r h = inl refl
else_below Equal r h = inr (refl, h)
else_below Greater r h = absurd (above≢below refl h)

-- exchanging the names turns the answer round
pub order_flip : (a : List ℕ) (s : Bool) (b : List ℕ) (t : Bool) → name_order b t a s ≡ opposite (name_order a s b t)
unfolding name_order
order_flip [] s [] t = by-flip (next [] s) (next [] t)
order_flip [] s (y ∷ b) t = by-flip (next [] s) (next (y ∷ b) t)
order_flip (x ∷ a) s [] t = by-flip (next (x ∷ a) s) (next [] t)
order_flip (x ∷ a) s (y ∷ b) t = rw (by-flip x y, order_flip a s b t) (else_flip (by_number x y) (name_order a s b t))

-- a name against itself is Same
pub order_self : (a : List ℕ) (s : Bool) → name_order a s a s ≡ Equal
unfolding name_order
order_self [] s = by-eq refl
order_self (x ∷ a) s = rw (by-eq {x = x} refl, order_self a s)

-- no name is below itself
pub order_irreflexive : (a : List ℕ) (s : Bool) → name_order a s a s ≡ Less → ⊥
order_irreflexive a s h = below≢same h (order_self a s)

-- the first bytes of two names, one of which is below the other
pub first_le : (x : ℕ) (a : List ℕ) (s : Bool) (y : ℕ) (b : List ℕ) (t : Bool) → name_order (x ∷ a) s (y ∷ b) t ≡ Less → x ≤ y
unfolding name_order
first_le x a s y b t h =
    ⊎_elim (λ w. omega (arith, by-below w)) (λ w. omega (arith, by-same w.0)) (else_below (by_number x y) (name_order a s b t) h)

-- the rests of two names with one first byte
pub below_rest : (x : ℕ) (a : List ℕ) (s : Bool) (y : ℕ) (b : List ℕ) (t : Bool) → x ≡ y → name_order (x ∷ a) s (y ∷ b) t ≡ Less → name_order a s b t ≡ Less
unfolding name_order
below_rest x a s y b t e h = rw (by-eq e) at h

at-end : (x y z : ℕ) → by_number x y ≡ Less → by_number y z ≡ Less → by_number x z ≡ Less
at-end x y z h k = by_lt (omega (arith, by-below h, by-below k))

at_byte : (x y z : ℕ) (p q r : Ordering) → (p ≡ Less → q ≡ Less → r ≡ Less) → then_by (by_number x y) p ≡ Less → then_by (by_number y z) q ≡ Less
    → then_by (by_number x z) r ≡ Less
at_byte x y z p q r rest h k = go (else_below (by_number x y) p h) (else_below (by_number y z) q k)
  where
    less : x < z → then_by (by_number x z) r ≡ Less
    less l = rw (by_lt l)

    go : (by_number x y ≡ Less) ⊎ ((by_number x y ≡ Equal) × (p ≡ Less)) → (by_number y z ≡ Less) ⊎ ((by_number y z ≡ Equal) × (q ≡ Less))
        → then_by (by_number x z) r ≡ Less
    go (inl f) (inl g) = less (omega (arith, by-below f, by-below g))
    go (inl f) (inr g) = less (omega (arith, by-below f, by-same g.0))
    go (inr f) (inl g) = less (omega (arith, by-same f.0, by-below g))
    go (inr f) (inr g) = rw (by-eq (by-same f.0 ∙ by-same g.0)) (rest f.1 g.1)

-- what is below a name that is below a third is below the third
pub order_trans : (a : List ℕ) (s : Bool) (b : List ℕ) (t : Bool) (c : List ℕ) (u : Bool) → name_order a s b t ≡ Less → name_order b t c u ≡ Less
    → name_order a s c u ≡ Less
unfolding name_order next
order_trans [] s [] t [] u h k = at-end (next [] s) (next [] t) (next [] u) h k
order_trans [] s [] t (z ∷ c) u h k = at-end (next [] s) (next [] t) (suc z) h k
order_trans [] s (y ∷ b) t [] u h k = at-end (next [] s) (suc y) (next [] u) h k
order_trans [] s (y ∷ b) t (z ∷ c) u h k = by_lt (omega (arith, by-below h, first_le y b t z c u k))
order_trans (x ∷ a) s [] t [] u h k = at-end (suc x) (next [] t) (next [] u) h k
order_trans (x ∷ a) s [] t (z ∷ c) u h k = rw (by_lt {x = x} {y = z} (omega (arith, by-below h, by-below k)))
order_trans (x ∷ a) s (y ∷ b) t [] u h k = by_lt (omega (arith, by-below k, first_le x a s y b t h))
order_trans (x ∷ a) s (y ∷ b) t (z ∷ c) u h k =
    at_byte x y z (name_order a s b t) (name_order b t c u) (name_order a s c u) (order_trans a s b t c u) h k

-- ---- what Same and between mean

free_first : (x : ℕ) (a : List ℕ) → free_of 47 (x ∷ a) ≡ true → (x ≡ 47 → ⊥) × (free_of 47 a ≡ true)
free_first x a h = go (eqb x 47) refl h
  where
    go : (v : Bool) → eqb x 47 ≡ v → (not v && free_of 47 a) ≡ true → (x ≡ 47 → ⊥) × (free_of 47 a ≡ true)
    go true e h = absurd (false≢true h)
    go false e h = ((λ q. false≢true (sym e ∙ eq-eqb x 47 q)), h)

-- names without a slash are Same only where they are one name of one sort
pub order_same : (a : List ℕ) (s : Bool) (b : List ℕ) (t : Bool) → free_of 47 a ≡ true → free_of 47 b ≡ true → name_order a s b t ≡ Equal
    → (a ≡ b) × (s ≡ t)
unfolding name_order next
order_same [] true [] true p q h = (refl, refl)
order_same [] true [] false p q h = absurd (omega (arith, by-same h))
order_same [] false [] true p q h = absurd (omega (arith, by-same h))
order_same [] false [] false p q h = (refl, refl)
order_same [] true (y ∷ b) t p q h = absurd ((free_first y b q).0 (omega (arith, by-same h)))
order_same [] false (y ∷ b) t p q h = absurd (omega (arith, by-same h))
order_same (x ∷ a) s [] true p q h = absurd ((free_first x a p).0 (omega (arith, by-same h)))
order_same (x ∷ a) s [] false p q h = absurd (omega (arith, by-same h))
order_same (x ∷ a) s (y ∷ b) t p q h =
    let e = else_same (by_number x y) (name_order a s b t) h in
    let i = order_same a s b t (free_first x a p).1 (free_first y b q).1 e.1 in
    let j = by-same e.0 in
    (cc, i.1)

-- what stands strictly between blob a and tree a begins with a and goes on with a byte below the slash
pub order_between : (a c : List ℕ) (u : Bool) → name_order a false c u ≡ Less → name_order c u a true ≡ Less
    → (y : ℕ) × (rest : List ℕ) × (c ≡ a ++ (y ∷ rest)) × (y < 47)
unfolding name_order next
order_between [] [] true h k = absurd (omega (arith, by-below k))
order_between [] [] false h k = absurd (omega (arith, by-below h))
order_between [] (y ∷ c) u h k = (y, c, refl, omega (arith, by-below k))
order_between (x ∷ a) [] true h k = absurd (omega (arith, by-below h, by-below k))
order_between (x ∷ a) [] false h k = absurd (omega (arith, by-below h))
order_between (x ∷ a) (y ∷ c) u h k =
    let e : x ≡ y = omega (arith, first_le x a false y c u h, first_le y c u x a true k) in
    let w = order_between a c u (rw (by-eq e) at h) (rw (by-eq (sym e)) at k) in
    (w.0, w.1, cc, w.3)

-- a name without a slash stands to b, a slash and anything as it stands to tree b
pub order_slash : (a : List ℕ) (s : Bool) (b rest : List ℕ) (t : Bool) → free_of 47 a ≡ true → name_order a s (b ++ (47 ∷ rest)) t ≡ name_order a s b true
unfolding name_order next
order_slash [] s [] rest t p = refl
order_slash [] s (y ∷ b) rest t p = refl
order_slash (x ∷ a) s [] rest t p = differ x 47 (name_order a s rest t) (free_first x a p).0
order_slash (x ∷ a) s (y ∷ b) rest t p = ap (then_by (by_number x y)) (order_slash a s b rest t (free_first x a p).1)

-- ---- the numbers

-- no two answers have one number
pub number-once : (o p : Ordering) → order_number o ≡ order_number p → o ≡ p
unfolding order_number
number-once Less Less e = refl
number-once Less Equal e = absurd (pos-ne-negsuc 0 0 (sym e))
number-once Less Greater e = absurd (pos-ne-negsuc 1 0 (sym e))
number-once Equal Less e = absurd (pos-ne-negsuc 0 0 e)
number-once Equal Equal e = refl
number-once Equal Greater e = absurd (omega (arith, ap nat_abs e))
number-once Greater Less e = absurd (pos-ne-negsuc 1 0 e)
number-once Greater Equal e = absurd (omega (arith, ap nat_abs e))
number-once Greater Greater e = refl
