-- A walk's items are in order, level by level. Assumes nothing.
use Prim.Native.Nat.{ℕ, zero, suc, ◌+◌}
use mathlib.Core.Bool.{Bool, true, false, ◌&&◌, ◌||◌, not}
use mathlib.Core.Path.{◌≡◌, refl, ap, sym, subst, ◌∙◌}
use mathlib.Core.List.{List, [], ◌∷◌, ◌++◌, append-nil}
use mathlib.Core.Logic.{◌⊎◌, inl, inr}
use borrow.Author.Tests.{eqb-true, eqb-false}
use lib.Dec.{eqb, ltb}
use lib.ListN.{length}
use Rattle.ground.specs.Basics.{pick}
use Rattle.ground.specs.Verdict.{verdict, fine, most_records}
use Rattle.mode.specs.Mode.{value_of, sort_of, is_tree}
use Rattle.order.specs.Order.{name_order, opposite}
use Rattle.order.proofs.Laws.{order_same, order_flip, order_trans}
use Rattle.rules.specs.Rules.{permitted}
use Rattle.rules.proofs.Laws.{permitted-parts}
use Rattle.item.specs.Items.{Side, absent, Named, is_folder, Item, Folder, shut, holds, join, same_id, same_side}
use Rattle.walk.specs.Walk.{Out, refused_by, nothing, put, and_then, Lower, change, left_only, right_only, both, rights, against, compare_entries, opened, compare_folders, Done}
use Rattle.merge.specs.Merge.{by_order}
use Rattle.differing.specs.Differing.{Bound, any, past, Beyond, Ascending, InOrder, none, block, GitOrder}
use Rattle.walk.proofs.Walks.{then_is, then-stop, put-done}
use Rattle.std.specs.declared.cmp.Ordering.{Ordering}
use Rattle.std.specs.declared.cmp.Ordering.TheVariants.{Equal, Greater, Less}

done_or : (o : Out) → Done o ⊎ (Done o → ⊥)
done_or o = cases (eqb o.verdict.number 0) refl
  where
    cases : (t : Bool) → eqb o.verdict.number 0 ≡ t → Done o ⊎ (Done o → ⊥)
    cases true e = inl (eqb-true o.verdict.number 0 e)
    cases false e = inr (eqb-false o.verdict.number 0 e)

put-none : (n : ℕ) (x : Item) → (Done (put n x) → ⊥) → (put n x).items ≡ []
unfolding put
put-none n x = cases (ltb n most_records)
  where
    cases : (t : Bool) → (Done (pick t (record { items = x ∷ []; verdict = fine }) (refused_by (verdict 2 0))) → ⊥) → (pick t (record { items = x ∷ []; verdict = fine }) (refused_by (verdict 2 0))).items ≡ []
    cases true h = absurd (h refl)
    cases false h = refl

tree-zero : is_tree 0 ≡ false
unfolding is_tree sort_of value_of
tree-zero = refl

or-false : (t : Bool) → t || false ≡ t
or-false true = refl
or-false false = refl

or_self : (t : Bool) → t || t ≡ t
or_self true = refl
or_self false = refl

left-sort : (m : ℕ) → is_tree m || is_tree 0 ≡ is_tree m
left-sort m = rw tree-zero (or-false (is_tree m))

right-sort : (m : ℕ) → is_tree 0 || is_tree m ≡ is_tree m
right-sort m = rw tree-zero

beyond_trans : (b : Bound) (n : List ℕ) (s : Bool) (m : List ℕ) (t : Bool) → Beyond b n s → name_order n s m t ≡ Less → Beyond b m t
beyond_trans any n s m t h g = tt
beyond_trans (past k u) n s m t h g = order_trans k u n s m t h g

weaken : {prefix : List ℕ} {items : List Item} (b : Bound) (name : List ℕ) (sort : Bool) → Beyond b name sort → InOrder prefix (past name sort) items → InOrder prefix b items
weaken b name sort h none = none
weaken b name sort h (block name' sort' p q f y i g r) = block name' sort' p q f (beyond_trans b name sort name' sort' h y) i g r

module _ (below : Lower) (prefix : List ℕ) (ordered : (path a b : List ℕ) (n : ℕ) → InOrder path any (below path a b n).items) where
  module _ (name : List ℕ) (sort deep : Bool) (l r : Side) (go : ℕ → Out) (b : Bound) (ks : is_tree l.mode || is_tree r.mode ≡ sort) (fr : permitted name ≡ true)
      (by : Beyond b name sort) (flat : sort ≡ false → deep ≡ false) (rest : (m : ℕ) → InOrder prefix (past name sort) (go m).items) where
    abbrev X : Item
    X = record { path = join prefix name; left = l; right = r }

    abbrev Inner : ℕ → Out
    Inner m = pick deep (below (join prefix name) l.id r.id m) nothing

    inner_order : (m : ℕ) → InOrder (join prefix name) any (Inner m).items
    inner_order m = cases deep
      where
        cases : (t : Bool) → InOrder (join prefix name) any (pick t (below (join prefix name) l.id r.id m) nothing).items
        cases true = ordered (join prefix name) l.id r.id m
        cases false = none

    inner-none : (m : ℕ) → sort ≡ false → (Inner m).items ≡ []
    inner-none m h = rw (flat h)

    follow : (m : ℕ) → InOrder prefix b (X ∷ (and_then m (Inner m) go).items)
    follow m = cases (done_or (Inner m))
      where
        cases : Done (Inner m) ⊎ (Done (Inner m) → ⊥) → InOrder prefix b (X ∷ (and_then m (Inner m) go).items)
        cases (inl h) = rw (then_is m (Inner m) go h) (block name sort refl ks fr by (inner_order m) (inner-none m) (rest (m + length (Inner m).items)))
        cases (inr h) =
            rw (then-stop m (Inner m) go h)
            (subst (λ (k : List Item). InOrder prefix b (X ∷ k)) (append-nil (Inner m).items) (block name sort refl ks fr by (inner_order m) (inner-none m) none))

    change_order : (n : ℕ) → InOrder prefix b (change below prefix n name deep l r go).items
    unfolding change
    change_order n = cases (done_or (put n X))
      where
        on : ℕ → Out
        on m = and_then m (Inner m) go

        cases : Done (put n X) ⊎ (Done (put n X) → ⊥) → InOrder prefix b (and_then n (put n X) (λ m. and_then m (Inner m) go)).items
        cases (inl h) =
            let e : (put n X).items ≡ X ∷ [] = ap (λ (o : Out). o.items) (put-done n X h) in
            rw (then_is n (put n X) (λ m. and_then m (Inner m) go) h)
            (subst (λ (k : List Item). InOrder prefix b (k ++ (and_then (n + length (put n X).items) (Inner (n + length (put n X).items)) go).items)) (sym e) (follow (n + length (put n X).items)))
        cases (inr h) = rw (then-stop n (put n X) (λ m. and_then m (Inner m) go) h, put-none n X h) none

  left_order : (l : Named) (go : ℕ → Out) (b : Bound) → permitted l.name ≡ true → Beyond b l.name (is_folder l) → ((m : ℕ) → InOrder prefix (past l.name (is_folder l)) (go m).items)
      → (n : ℕ) → InOrder prefix b (left_only below prefix n l go).items
  left_order l go b f y rest n = change_order l.name (is_folder l) (is_folder l) l.side absent go b (left-sort l.side.mode) f y (λ h. h) rest n

  right_order : (r : Named) (go : ℕ → Out) (b : Bound) → permitted r.name ≡ true → Beyond b r.name (is_folder r) → ((m : ℕ) → InOrder prefix (past r.name (is_folder r)) (go m).items)
      → (n : ℕ) → InOrder prefix b (right_only below prefix n r go).items
  right_order r go b f y rest n = change_order r.name (is_folder r) (is_folder r) absent r.side go b (right-sort r.side.mode) f y (λ h. h) rest n

  rights_order : (rs : List Named) (b : Bound) → Ascending b rs → (n : ℕ) → InOrder prefix b (rights below prefix n rs).items
  unfolding rights
  rights_order [] b a n = none
  rights_order (r ∷ rs) b a n = right_order r (λ m. rights below prefix m rs) b a.0 a.1 (λ m. rights_order rs (past r.name (is_folder r)) a.2 m) n

  both_order : (l r : Named) (go : ℕ → Out) (b : Bound) → permitted l.name ≡ true → is_folder l ≡ is_folder r → Beyond b l.name (is_folder l)
      → ((m : ℕ) → InOrder prefix (past l.name (is_folder l)) (go m).items) → (n : ℕ) → InOrder prefix b (both below prefix n l r go).items
  unfolding both
  both_order l r go b f e y rest n = cases (same_side l.side r.side)
    where
      D : Bool
      D = is_folder l && not (same_id l.side r.side)

      sort : is_tree l.side.mode || is_tree r.side.mode ≡ is_folder l
      sort = rw (← e) (or_self (is_folder l))

      flat : is_folder l ≡ false → is_folder l && not (same_id l.side r.side) ≡ false
      flat h = rw h

      cases : (t : Bool) → InOrder prefix b (pick t (go n) (change below prefix n l.name (is_folder l && not (same_id l.side r.side)) l.side r.side go)).items
      cases true = weaken b l.name (is_folder l) y (rest n)
      cases false = change_order l.name (is_folder l) (is_folder l && not (same_id l.side r.side)) l.side r.side go b sort f y flat rest n

  against_order : (l : Named) (next : ℕ → List Named → Out) → permitted l.name ≡ true
      → ((rs : List Named) → Ascending (past l.name (is_folder l)) rs → (n : ℕ) → InOrder prefix (past l.name (is_folder l)) (next n rs).items)
      → (rs : List Named) (b : Bound) → Beyond b l.name (is_folder l) → Ascending b rs → (n : ℕ) → InOrder prefix b (against below prefix l next n rs).items
  unfolding against
  against_order l next f nx [] b y a n = left_order l (λ m. next m []) b f y (λ m. nx [] tt m) n
  against_order l next f nx (r ∷ rs) b y a n =
      cases (λ e m. against_order l next f nx rs (past r.name (is_folder r)) (order_flip l.name (is_folder l) r.name (is_folder r) ∙ ap opposite e) a.2 m)
      (name_order l.name (is_folder l) r.name (is_folder r)) refl
    where
      cases : (name_order l.name (is_folder l) r.name (is_folder r) ≡ Greater → (m : ℕ) → InOrder prefix (past r.name (is_folder r)) (against below prefix l next m rs).items)
          → (o : Ordering) → name_order l.name (is_folder l) r.name (is_folder r) ≡ o
          → InOrder prefix b
          (by_order o (left_only below prefix n l (λ m. next m (r ∷ rs))) (both below prefix n l r (λ m. next m rs)) (right_only below prefix n r (λ m. against below prefix l next m rs))).items
      cases rec Less e = left_order l (λ m. next m (r ∷ rs)) b f y (λ m. nx (r ∷ rs) (a.0, e, a.2) m) n
      cases rec Equal e =
          let k = order_same l.name (is_folder l) r.name (is_folder r) (permitted-parts l.name f).2 (permitted-parts r.name a.0).2 e in
          let asc : Ascending (past l.name (is_folder l)) rs = rw (k.0, k.1) a.2 in
          both_order l r (λ m. next m rs) b f k.1 y (λ m. nx rs asc m) n
      cases rec Greater e = right_order r (λ m. against below prefix l next m rs) b a.0 a.1 (rec e) n

  entries_order : (ls : List Named) (b : Bound) → Ascending b ls → (rs : List Named) → Ascending b rs → (n : ℕ) → InOrder prefix b (compare_entries below prefix ls n rs).items
  unfolding compare_entries
  entries_order [] b p rs q n = rights_order rs b q n
  entries_order (l ∷ ls) b p rs q n =
      against_order l (compare_entries below prefix ls) p.0 (λ rs' q' n'. entries_order ls (past l.name (is_folder l)) p.2 rs' q' n') rs b p.1 q n

pub git_order : GitOrder
unfolding compare_folders opened
git_order folder sound zero prefix a b n = none
git_order folder sound (suc d) prefix a b n = left (λ path a' b' n'. git_order folder sound d path a' b' n') (folder a) refl
  where
    right : ((path a' b' : List ℕ) (n' : ℕ) → InOrder path any (compare_folders folder d path a' b' n').items) → (ls : List Named) → Ascending any ls → (y : Folder) → folder b ≡ y
        → InOrder prefix any (opened y (λ rs. compare_entries (compare_folders folder d) prefix ls n rs)).items
    right rec ls p (shut v) e = none
    right rec ls p (holds rs) e = entries_order (compare_folders folder d) prefix rec ls any p rs (sound b rs e) n

    left : ((path a' b' : List ℕ) (n' : ℕ) → InOrder path any (compare_folders folder d path a' b' n').items) → (x : Folder) → folder a ≡ x
        → InOrder prefix any (opened x (λ ls. opened (folder b) (λ rs. compare_entries (compare_folders folder d) prefix ls n rs))).items
    left rec (shut v) e = none
    left rec (holds ls) e = right rec ls (sound a ls e) (folder b) refl
