-- In order, no two items have one path and sort. Assumes nothing.
use Prim.Native.Nat.{ℕ}
use mathlib.Core.Bool.{Bool, true, false, not}
use mathlib.Core.Path.{◌≡◌, refl, ap, sym, subst, ◌∙◌}
use mathlib.Core.List.{List, [], ◌∷◌, ◌++◌, append_assoc}
use mathlib.Core.Logic.{◌⊎◌, inl, inr}
use native.Mathlib.Omega.{arith}
use lib.Dec.{eqb}
use lib.ListN.{length, length-append}
use Rattle.ground.specs.Scan.{free_of}
use Rattle.ground.proofs.Laws.{and_right}
use Rattle.order.specs.Order.{name_order}
use Rattle.order.proofs.Laws.{order_trans, order_irreflexive}
use Rattle.rules.specs.Rules.{permitted}
use Rattle.rules.proofs.Laws.{permitted-parts}
use Rattle.item.specs.Items.{Item, join}
use Rattle.differing.specs.Differing.{of_folder, Bound, any, past, Beyond, InOrder, none, block, Differs, All, Distinct}
use Rattle.std.specs.declared.cmp.Ordering.TheVariants.{Less}

-- ---- lists

never : true ≡ false → ⊥
never h = let z : ◌≡◌ {A = ℕ} 0 1 = cc in omega arith

free_rest : (x : ℕ) (a : List ℕ) → free_of 47 (x ∷ a) ≡ true → free_of 47 a ≡ true
free_rest x a h = and_right (not (eqb x 47)) (free_of 47 a) h

free_head : (a : List ℕ) → free_of 47 (47 ∷ a) ≡ true → ⊥
free_head a h = never (sym h)

free_within : (a r : List ℕ) → free_of 47 (a ++ (47 ∷ r)) ≡ true → ⊥
free_within [] r h = free_head r h
free_within (x ∷ a) r h = free_within a r (free_rest x (a ++ (47 ∷ r)) h)

free_split : (a b r q : List ℕ) → free_of 47 a ≡ true → free_of 47 b ≡ true → a ++ (47 ∷ r) ≡ b ++ (47 ∷ q) → a ≡ b
free_split [] [] r q f g h = refl
free_split [] (y ∷ b) r q f g h = let e : 47 ≡ y = cc in absurd (free_head b (subst (λ (k : ℕ). free_of 47 (k ∷ b) ≡ true) (sym e) g))
free_split (x ∷ a) [] r q f g h = let e : x ≡ 47 = cc in absurd (free_head a (subst (λ (k : ℕ). free_of 47 (k ∷ a) ≡ true) e f))
free_split (x ∷ a) (y ∷ b) r q f g h =
    let e : x ≡ y = cc in
    let k : a ++ (47 ∷ r) ≡ b ++ (47 ∷ q) = cc in
    let i : a ≡ b = free_split a b r q (free_rest x a f) (free_rest y b g) k in
    rw (e, i)

cancel : (l a b : List ℕ) → l ++ a ≡ l ++ b → a ≡ b
cancel [] a b h = h
cancel (x ∷ l) a b h = let k : l ++ a ≡ l ++ b = cc in cancel l a b k

join_cancel : (prefix a b : List ℕ) → join prefix a ≡ join prefix b → a ≡ b
unfolding join
join_cancel [] a b h = h
join_cancel (p ∷ ps) a b h =
    let k : (47 ∷ a) ≡ (47 ∷ b) = cancel (p ∷ ps) (47 ∷ a) (47 ∷ b) h in
    cc

join_more : (prefix a r : List ℕ) → join prefix a ++ (47 ∷ r) ≡ join prefix (a ++ (47 ∷ r))
unfolding join
join_more [] a r = refl
join_more (p ∷ ps) a r = append_assoc (p ∷ ps) (47 ∷ a) (47 ∷ r)

join-under : (prefix name n : List ℕ) → (name ≡ [] → ⊥) → join (join prefix name) n ≡ join prefix name ++ (47 ∷ n)
unfolding join
join-under [] [] n h = absurd (h refl)
join-under [] (x ∷ name) n h = refl
join-under (p ∷ ps) name n h = refl

-- what a permitted name is
named_free : (name : List ℕ) → permitted name ≡ true → free_of 47 name ≡ true
named_free name h = (permitted-parts name h).2

named_some : (name : List ℕ) → permitted name ≡ true → name ≡ [] → ⊥
named_some [] h e = never (sym (permitted-parts [] h).0)
named_some (x ∷ name) h e = let z : ◌≡◌ {A = ℕ} 0 1 = cc in omega arith

-- ---- an item below a path: of a name beyond the bound, or within the folder of such a name

pub record Under (prefix : List ℕ) (b : Bound) (y : Item) : Type 0 where
  pub name : List ℕ
  pub sort : Bool
  pub allowed : permitted name ≡ true
  pub later : Beyond b name sort
  pub there : ((y.path ≡ join prefix name) × (of_folder y ≡ sort)) ⊎ ((sort ≡ true) × ((rest : List ℕ) × (y.path ≡ join prefix name ++ (47 ∷ rest))))

beyond_trans : (b : Bound) (n : List ℕ) (s : Bool) (m : List ℕ) (t : Bool) → Beyond b n s → name_order n s m t ≡ Less → Beyond b m t
beyond_trans any n s m t h g = tt
beyond_trans (past k u) n s m t h g = order_trans k u n s m t h g

map-all : (P Q : Item → Type 0) → ((x : Item) → P x → Q x) → (xs : List Item) → All P xs → All Q xs
map-all P Q f [] a = tt
map-all P Q f (x ∷ xs) a = (f x a.0, map-all P Q f xs a.1)

append-all : (P : Item → Type 0) (xs ys : List Item) → All P xs → All P ys → All P (xs ++ ys)
append-all P [] ys a b = b
append-all P (x ∷ xs) ys a b = (a.0, append-all P xs ys a.1 b)

-- inner items are deeper
inner-path : (prefix name : List ℕ) → permitted name ≡ true → (y : Item) → Under (join prefix name) any y → (rest : List ℕ) × (y.path ≡ join prefix name ++ (47 ∷ rest))
inner-path prefix name f y u = cases u.there
  where
    cases : ((y.path ≡ join (join prefix name) u.name) × (of_folder y ≡ u.sort)) ⊎ ((u.sort ≡ true) × ((rest : List ℕ) × (y.path ≡ join (join prefix name) u.name ++ (47 ∷ rest))))
        → (rest : List ℕ) × (y.path ≡ join prefix name ++ (47 ∷ rest))
    cases (inl h) = (u.name, h.0 ∙ join-under prefix name u.name (named_some name f))
    cases (inr h) = (
      u.name ++ (47 ∷ h.1.0),
      h.1.1 ∙ rw (join-under prefix name u.name (named_some name f)) (append_assoc (join prefix name) (47 ∷ u.name) (47 ∷ h.1.0)),
    )

inner-under : (prefix : List ℕ) (b : Bound) (name : List ℕ) (sort : Bool) → permitted name ≡ true → Beyond b name sort → sort ≡ true → (y : Item) → Under (join prefix name) any y → Under prefix b y
inner-under prefix b name sort f h e y u = record { name = name; sort = sort; allowed = f; later = h; there = inr (e, inner-path prefix name f y u) }

later-under : (prefix : List ℕ) (b : Bound) (name : List ℕ) (sort : Bool) → Beyond b name sort → (y : Item) → Under prefix (past name sort) y → Under prefix b y
later-under prefix b name sort h y u =
    record { name = u.name; sort = u.sort; allowed = u.allowed; later = beyond_trans b name sort u.name u.sort h u.later; there = u.there }

-- the inner items of a file are none
none_all : (P : Item → Type 0) (xs : List Item) → xs ≡ [] → All P xs
none_all P [] e = tt
none_all P (x ∷ xs) e = let z : ◌≡◌ {A = ℕ} 0 1 = cc in absurd (omega arith)

either : (P : Item → Type 0) (sort : Bool) (xs : List Item) → (sort ≡ false → xs ≡ []) → (sort ≡ true → All P xs) → All P xs
either P true xs f g = g refl
either P false xs f g = none_all P xs (f refl)

pub under_all : {prefix : List ℕ} {b : Bound} {items : List Item} → InOrder prefix b items → All (Under prefix b) items
under_all none = tt
under_all {prefix} {b} (block {x = x} {inner = inner} {rest = rest} name sort p q f h i g r) = (
  record { name = name; sort = sort; allowed = f; later = h; there = inl (p, q) },
  append-all (Under prefix b) inner rest
      (either (Under prefix b) sort inner g (λ e. map-all (Under (join prefix name) any) (Under prefix b) (inner-under prefix b name sort f h e) inner (under_all i)))
      (map-all (Under prefix (past name sort)) (Under prefix b) (later-under prefix b name sort h) rest (under_all r)),
)

-- ---- no two are the same

-- a path cannot have a name of two kinds
module _ (prefix name : List ℕ) (sort : Bool) (f : permitted name ≡ true) where
  head-later : (x y : Item) → x.path ≡ join prefix name → of_folder x ≡ sort → Under prefix (past name sort) y → Differs x y
  head-later x y p q u e t = cases u.there
    where
      cases : ((y.path ≡ join prefix u.name) × (of_folder y ≡ u.sort)) ⊎ ((u.sort ≡ true) × ((rest : List ℕ) × (y.path ≡ join prefix u.name ++ (47 ∷ rest)))) → ⊥
      cases (inl h) =
          let n : name ≡ u.name = join_cancel prefix name u.name (sym p ∙ e ∙ h.0) in
          let s : sort ≡ u.sort = sym q ∙ t ∙ h.1 in
          order_irreflexive u.name u.sort (rw (n, s) at u.later)
      cases (inr h) =
          let n : name ≡ u.name ++ (47 ∷ h.1.0) = join_cancel prefix name _ (sym p ∙ e ∙ h.1.1 ∙ join_more prefix u.name h.1.0) in
          free_within u.name h.1.0 (rw n at (named_free name f))

  head-inner : (x y : Item) → x.path ≡ join prefix name → Under (join prefix name) any y → Differs x y
  head-inner x y p u e t =
      let i = inner-path prefix name f y u in
      omega (arith, length-append (join prefix name) (47 ∷ i.0), ap length (sym p ∙ e ∙ i.1))

  inner-later : sort ≡ true → (x y : Item) → Under (join prefix name) any x → Under prefix (past name sort) y → Differs x y
  inner-later st x y ux u e t = cases u.there
    where
      i : (rest : List ℕ) × (x.path ≡ join prefix name ++ (47 ∷ rest))
      i = inner-path prefix name f x ux

      cases : ((y.path ≡ join prefix u.name) × (of_folder y ≡ u.sort)) ⊎ ((u.sort ≡ true) × ((rest : List ℕ) × (y.path ≡ join prefix u.name ++ (47 ∷ rest)))) → ⊥
      cases (inl h) =
          let n : name ++ (47 ∷ i.0) ≡ u.name = join_cancel prefix _ u.name (sym (join_more prefix name i.0) ∙ sym i.1 ∙ e ∙ h.0) in
          free_within name i.0 (rw (← n) at (named_free u.name u.allowed))
      cases (inr h) =
          let k : name ++ (47 ∷ i.0) ≡ u.name ++ (47 ∷ h.1.0)
          = join_cancel prefix _ _ (sym (join_more prefix name i.0) ∙ sym i.1 ∙ e ∙ h.1.1 ∙ join_more prefix u.name h.1.0) in
          let n : name ≡ u.name = free_split name u.name i.0 h.1.0 (named_free name f) (named_free u.name u.allowed) k in
          let s : sort ≡ u.sort = st ∙ sym h.0 in
          order_irreflexive u.name u.sort (rw (n, s) at u.later)

distinct_append : (xs ys : List Item) → Distinct xs → Distinct ys → All (λ x. All (Differs x) ys) xs → Distinct (xs ++ ys)
distinct_append [] ys p q a = q
distinct_append (x ∷ xs) ys p q a = (append-all (Differs x) xs ys p.0 a.0, distinct_append xs ys p.1 q a.1)

pub distinct : {prefix : List ℕ} {b : Bound} {items : List Item} → InOrder prefix b items → Distinct items
distinct none = tt
distinct {prefix} {b} (block {x = x} {inner = inner} {rest = rest} name sort p q f h i g r) = (
  append-all (Differs x) inner rest
      (map-all (Under (join prefix name) any) (Differs x) (λ y u. head-inner prefix name sort f x y p u) inner (under_all i))
      (map-all (Under prefix (past name sort)) (Differs x) (λ y u. head-later prefix name sort f x y p q u) rest (under_all r)),
  distinct_append inner rest (distinct i) (distinct r)
      (either (λ z. All (Differs z) rest) sort inner g
      (λ st. map-all (Under (join prefix name) any) (λ z. All (Differs z) rest)
      (λ z uz. map-all (Under prefix (past name sort)) (Differs z) (λ y u. inner-later prefix name sort f st z y uz u) rest (under_all r)) inner (under_all i))),
)
