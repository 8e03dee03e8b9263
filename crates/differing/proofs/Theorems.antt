-- Equal entries give no item, and folders with equal ids stay shut. Assumes nothing.
use Prim.Native.Nat.{ℕ, zero, suc, ◌+◌}
use mathlib.Core.Bool.{Bool, true, false, ◌&&◌, not}
use mathlib.Core.Path.{◌≡◌, refl, ap, sym, ◌∙◌}
use mathlib.Core.List.{List, [], ◌∷◌, ◌++◌, map}
use native.Mathlib.Omega.{arith}
use borrow.Author.Tests.{eq-eqb, eqb-true}
use lib.Dec.{eqb}
use lib.ListN.{length}
use Rattle.ground.proofs.Laws.{same_refl, same_true}
use Rattle.ground.specs.Basics.{pick}
use Rattle.ground.specs.Scan.{same_bytes}
use Rattle.order.specs.Order.{name_order}
use Rattle.order.proofs.Laws.{order_self, order_same}
use Rattle.entry.specs.Entry.{Entry}
use Rattle.item.specs.Items.{Side, absent, Named, is_folder, Item, Folder, holds, join, same_id, same_side, entry_of}
use Rattle.walk.specs.Walk.{Out, nothing, put, and_then, Lower, change, left_only, right_only, both, rights, against, compare_entries, opened, compare_folders, Done}
use Rattle.merge.specs.Merge.{by_order}
use Rattle.differing.specs.Differing.{Slashless, EmptyExactly, EqualUnopened}
use Rattle.walk.proofs.Walks.{then_is, then-first, put-done, then_same}
use Rattle.std.specs.declared.cmp.Ordering.{Ordering}
use Rattle.std.specs.declared.cmp.Ordering.TheVariants.{Equal, Greater, Less}

-- ---- folders with equal ids are not opened

module _ (below below' : Lower) (agree : (path a b : List ℕ) (n : ℕ) → (a ≡ b → a ≡ []) → below path a b n ≡ below' path a b n) (prefix : List ℕ) where
  change-same : (n : ℕ) (name : List ℕ) (deep : Bool) (l r : Side) (go go' : ℕ → Out) → (deep ≡ true → l.id ≡ r.id → l.id ≡ []) → ((m : ℕ) → go m ≡ go' m)
      → change below prefix n name deep l r go ≡ change below' prefix n name deep l r go'
  unfolding change
  change-same n name deep l r go go' h f = then_same n _ _ _ _ refl (λ m. then_same m _ _ go go' (cases deep h m) f)
    where
      cases : (t : Bool) → (t ≡ true → l.id ≡ r.id → l.id ≡ []) → (m : ℕ) → pick t (below (join prefix name) l.id r.id m) nothing ≡ pick t (below' (join prefix name) l.id r.id m) nothing
      cases true g m = agree (join prefix name) l.id r.id m (g refl)
      cases false g m = refl

  unequal : (t u : Bool) (l r : Side) → same_bytes l.id r.id ≡ u → t && not u ≡ true → l.id ≡ r.id → l.id ≡ []
  unequal t true l r e h g = cases t h
    where
      cases : (v : Bool) → v && false ≡ true → l.id ≡ []
      cases true k = let z : ◌≡◌ {A = ℕ} 0 1 = cc in absurd (omega arith)
      cases false k = let z : ◌≡◌ {A = ℕ} 0 1 = cc in absurd (omega arith)
  unequal t false l r e h g = let k : same_bytes r.id r.id ≡ false = rw g at e in let k' : same_bytes r.id r.id ≡ true = same_refl r.id in let z : ◌≡◌ {A = ℕ} 0 1 = cc in absurd (omega arith)

  both-same : (n : ℕ) (l r : Named) (go go' : ℕ → Out) → ((m : ℕ) → go m ≡ go' m) → both below prefix n l r go ≡ both below' prefix n l r go'
  unfolding both
  both-same n l r go go' f = rw (f n, change-same n l.name _ l.side r.side go go' (unequal (is_folder l) (same_id l.side r.side) l.side r.side refl) f)

  left-same : (n : ℕ) (l : Named) (go go' : ℕ → Out) → ((m : ℕ) → go m ≡ go' m) → left_only below prefix n l go ≡ left_only below' prefix n l go'
  left-same n l go go' f = change-same n l.name (is_folder l) l.side absent go go' (λ h g. g) f

  right-same : (n : ℕ) (r : Named) (go go' : ℕ → Out) → ((m : ℕ) → go m ≡ go' m) → right_only below prefix n r go ≡ right_only below' prefix n r go'
  right-same n r go go' f = change-same n r.name (is_folder r) absent r.side go go' (λ h g. refl) f

  rights-same : (n : ℕ) (rs : List Named) → rights below prefix n rs ≡ rights below' prefix n rs
  unfolding rights
  rights-same n [] = refl
  rights-same n (r ∷ rs) = right-same n r _ _ (λ m. rights-same m rs)

  against-same : (l : Named) (next next' : ℕ → List Named → Out) → ((m : ℕ) (rs : List Named) → next m rs ≡ next' m rs) → (n : ℕ) (rs : List Named)
      → against below prefix l next n rs ≡ against below' prefix l next' n rs
  unfolding against
  against-same l next next' f n [] = left-same n l _ _ (λ m. f m [])
  against-same l next next' f n (r ∷ rs) =
      rw (left-same n l _ _ (λ m. f m (r ∷ rs)), both-same n l r _ _ (λ m. f m rs), right-same n r _ _ (λ m. against-same l next next' f m rs))

  entries-same : (ls : List Named) (n : ℕ) (rs : List Named) → compare_entries below prefix ls n rs ≡ compare_entries below' prefix ls n rs
  unfolding compare_entries
  entries-same [] n rs = rights-same n rs
  entries-same (l ∷ ls) n rs = against-same l _ _ (λ m s. entries-same ls m s) n rs

pub equal_unopened : EqualUnopened
equal_unopened below below' agree prefix ls n rs = entries-same below below' agree prefix ls n rs

-- ---- empty exactly when the entries are equal

some-not-none : (x : Item) (xs : List Item) → (x ∷ xs) ≡ [] → ⊥
some-not-none x xs h = let z : ◌≡◌ {A = ℕ} 0 1 = cc in omega arith

-- an item was made
change-some : (below : Lower) (prefix : List ℕ) (n : ℕ) (name : List ℕ) (deep : Bool) (l r : Side) (go : ℕ → Out)
    → Done (change below prefix n name deep l r go) → (change below prefix n name deep l r go).items ≡ [] → ⊥
unfolding change
change-some below prefix n name deep l r go h k =
    let f : Done (put n x) = then-first n (put n x) on h in
    let e : (and_then n (put n x) on).items ≡ (put n x).items ++ (on (n + length (put n x).items)).items = ap (λ (o : Out). o.items) (then_is n (put n x) on f) in
    let g : (put n x).items ≡ x ∷ [] = ap (λ (o : Out). o.items) (put-done n x f) in
    let t : (and_then n (put n x) on).items ≡ x ∷ (on (n + length (put n x).items)).items = e ∙ ap (λ (l : List Item). l ++ (on (n + length (put n x).items)).items) g in
    some-not-none x (on (n + length (put n x).items)).items (sym t ∙ k)
  where
    x : Item
    x = record { path = join prefix name; left = l; right = r }

    on : ℕ → Out
    on m = and_then m (pick deep (below (join prefix name) l.id r.id m) nothing) go

-- two listings with equal entries
equal_none : (below : Lower) (prefix : List ℕ) (ls : List Named) (n : ℕ) (rs : List Named) → map entry_of ls ≡ map entry_of rs → compare_entries below prefix ls n rs ≡ nothing
unfolding compare_entries rights against both
equal_none below prefix [] n [] h = refl
equal_none below prefix [] n (r ∷ rs) h = let z : ◌≡◌ {A = ℕ} 0 1 = cc in absurd (omega arith)
equal_none below prefix (l ∷ ls) n [] h = let z : ◌≡◌ {A = ℕ} 0 1 = cc in absurd (omega arith)
equal_none below prefix (l ∷ ls) n (r ∷ rs) h =
    let e : entry_of l ≡ entry_of r = cc in
    let rest : map entry_of ls ≡ map entry_of rs = cc in
    let em : l.side.mode ≡ r.side.mode = ap (λ (x : Entry). x.mode) e in
    let en : l.name ≡ r.name = ap (λ (x : Entry). x.name) e in
    let ei : l.side.id ≡ r.side.id = ap (λ (x : Entry). x.id) e in
    let o : name_order l.name (is_folder l) r.name (is_folder r) ≡ Equal = rw (en, em) (order_self r.name (is_folder r)) in
    let t : same_side l.side r.side ≡ true = rw (ei, eq-eqb _ _ em) (same_refl r.side.id) in
    rw (o, t) (equal_none below prefix ls n rs rest)

-- no item was made: of three walks it was the middle one, and of two the first
middle : (o : Ordering) (A B C : Out) → (Done A → A.items ≡ [] → ⊥) → (Done C → C.items ≡ [] → ⊥) → Done (by_order o A B C) → (by_order o A B C).items ≡ []
    → (o ≡ Equal) × Done B × (B.items ≡ [])
middle Less A B C f g h k = absurd (f h k)
middle Equal A B C f g h k = (refl, h, k)
middle Greater A B C f g h k = absurd (g h k)

first : (t : Bool) (A B : Out) → (Done B → B.items ≡ [] → ⊥) → Done (pick t A B) → (pick t A B).items ≡ [] → (t ≡ true) × Done A × (A.items ≡ [])
first true A B g h k = (refl, h, k)
first false A B g h k = absurd (g h k)

sides_equal : (l r : Side) → same_side l r ≡ true → (l.mode ≡ r.mode) × (l.id ≡ r.id)
sides_equal l r h = cases (eqb l.mode r.mode) refl h
  where
    cases : (t : Bool) → eqb l.mode r.mode ≡ t → t && same_bytes l.id r.id ≡ true → (l.mode ≡ r.mode) × (l.id ≡ r.id)
    cases true e k = (eqb-true l.mode r.mode e, same_true l.id r.id k)
    cases false e k = let z : ◌≡◌ {A = ℕ} 0 1 = cc in absurd (omega arith)

entry_equal : (l r : Named) → l.name ≡ r.name → (l.side.mode ≡ r.side.mode) × (l.side.id ≡ r.side.id) → entry_of l ≡ entry_of r
entry_equal l r e f = rw (e, f.0, f.1)

none_equal : (below : Lower) (prefix : List ℕ) (ls : List Named) (n : ℕ) (rs : List Named) → Slashless ls → Slashless rs
    → Done (compare_entries below prefix ls n rs) → (compare_entries below prefix ls n rs).items ≡ [] → map entry_of ls ≡ map entry_of rs
unfolding compare_entries rights against both
none_equal below prefix [] n [] fl fr h k = refl
none_equal below prefix [] n (r ∷ rs) fl fr h k = absurd (change-some below prefix n r.name (is_folder r) absent r.side (λ m. rights below prefix m rs) h k)
none_equal below prefix (l ∷ ls) n [] fl fr h k = absurd (change-some below prefix n l.name (is_folder l) l.side absent (λ m. compare_entries below prefix ls m []) h k)
none_equal below prefix (l ∷ ls) n (r ∷ rs) fl fr h k =
    let d = middle (name_order l.name (is_folder l) r.name (is_folder r)) _ _ _
    (change-some below prefix n l.name (is_folder l) l.side absent (λ m. compare_entries below prefix ls m (r ∷ rs)))
    (change-some below prefix n r.name (is_folder r) absent r.side (λ m. against below prefix l (compare_entries below prefix ls) m rs)) h k in
    let e = first (same_side l.side r.side) _ _ (change-some below prefix n l.name _ l.side r.side (λ m. compare_entries below prefix ls m rs)) d.1 d.2 in
    let en : l.name ≡ r.name = (order_same l.name (is_folder l) r.name (is_folder r) fl.0 fr.0 d.0).0 in
    let same : entry_of l ≡ entry_of r = entry_equal l r en (sides_equal l.side r.side e.0) in
    let rest : map entry_of ls ≡ map entry_of rs = none_equal below prefix ls n rs fl.1 fr.1 e.1 e.2 in
    cc

pub trees_open : (folder : List ℕ → Folder) (d : ℕ) (prefix a b : List ℕ) (n : ℕ) (ls rs : List Named) → folder a ≡ holds ls → folder b ≡ holds rs
    → compare_folders folder (suc d) prefix a b n ≡ compare_entries (compare_folders folder d) prefix ls n rs
unfolding compare_folders opened
trees_open folder d prefix a b n ls rs e f = rw (e, f)

pub empty_exactly : EmptyExactly
unfolding compare_folders
empty_exactly folder zero prefix a b n ls rs e f fl fr h = absurd (omega arith)
empty_exactly folder (suc d) prefix a b n ls rs e f fl fr h =
    let t : compare_folders folder (suc d) prefix a b n ≡ compare_entries (compare_folders folder d) prefix ls n rs = trees_open folder d prefix a b n ls rs e f in
    let h' : Done (compare_entries (compare_folders folder d) prefix ls n rs) = ap (λ (o : Out). o.verdict.number) (sym t) ∙ h in (
      λ k. none_equal (compare_folders folder d) prefix ls n rs fl fr h' (ap (λ (o : Out). o.items) (sym t) ∙ k),
      λ k. ap (λ (o : Out). o.items) (t ∙ equal_none (compare_folders folder d) prefix ls n rs k),
    )
