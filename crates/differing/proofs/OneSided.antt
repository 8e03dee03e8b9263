-- Compared with nothing, a folder is listed whole. Assumes nothing.
use Prim.Native.Nat.{ℕ, zero, suc}
use mathlib.Core.Bool.{Bool, true, false}
use mathlib.Core.Path.{◌≡◌, refl}
use mathlib.Core.List.{List, [], ◌∷◌}
use Rattle.ground.specs.Basics.{pick}
use Rattle.item.specs.Items.{Named, is_folder, Folder, shut, holds, join}
use Rattle.walk.specs.Walk.{Out, nothing, Lower, change, rights, against, compare_entries, opened, compare_folders}
use Rattle.differing.specs.Differing.{every_entry, everything, left_item, right_item, OneSide}
use Rattle.walk.proofs.Walks.{then_same}

opened-same : (f : Folder) (go go' : List Named → Out) → ((es : List Named) → go es ≡ go' es) → opened f go ≡ opened f go'
unfolding opened
opened-same (shut v) go go' h = refl
opened-same (holds es) go go' h = h es

pick_same : (t : Bool) (o o' : Out) → o ≡ o' → pick t o nothing ≡ pick t o' nothing
pick_same true o o' e = e
pick_same false o o' e = refl

module _ (below : Lower) (lower : List ℕ → List ℕ → ℕ → Out) (prefix : List ℕ) where
  lefts_is : ((path id : List ℕ) (n : ℕ) → below path id [] n ≡ lower path id n) → (ls : List Named) (n : ℕ) → compare_entries below prefix ls n [] ≡ every_entry left_item lower prefix ls n
  unfolding compare_entries rights against change every_entry
  lefts_is h [] n = refl
  lefts_is h (l ∷ ls) n =
      then_same n _ _ _ _ refl (λ m. then_same m _ _ _ _ (pick_same (is_folder l) _ _ (h (join prefix l.name) l.side.id m)) (λ k. lefts_is h ls k))

  rights-is : ((path id : List ℕ) (n : ℕ) → below path [] id n ≡ lower path id n) → (rs : List Named) (n : ℕ) → compare_entries below prefix [] n rs ≡ every_entry right_item lower prefix rs n
  unfolding compare_entries rights change every_entry
  rights-is h [] n = refl
  rights-is h (r ∷ rs) n =
      then_same n _ _ _ _ refl (λ m. then_same m _ _ _ _ (pick_same (is_folder r) _ _ (h (join prefix r.name) r.side.id m)) (λ k. rights-is h rs k))

left-side : (folder : List ℕ → Folder) → folder [] ≡ holds [] → (d : ℕ) (prefix id : List ℕ) (n : ℕ) → compare_folders folder d prefix id [] n ≡ everything left_item folder d prefix id n
unfolding compare_folders everything opened
left-side folder e zero prefix id n = refl
left-side folder e (suc d) prefix id n =
    opened-same (folder id) _ _
    (λ ls. rw e (lefts_is (compare_folders folder d) (everything left_item folder d) prefix (λ path i m. left-side folder e d path i m) ls n))

right_side : (folder : List ℕ → Folder) → folder [] ≡ holds [] → (d : ℕ) (prefix id : List ℕ) (n : ℕ) → compare_folders folder d prefix [] id n ≡ everything right_item folder d prefix id n
unfolding compare_folders everything opened
right_side folder e zero prefix id n = refl
right_side folder e (suc d) prefix id n =
    rw e
    (opened-same (folder id) _ _ (λ rs. rights-is (compare_folders folder d) (everything right_item folder d) prefix (λ path i m. right_side folder e d path i m) rs n))

pub one_side : OneSide
one_side folder e d prefix id n = (left-side folder e d prefix id n, right_side folder e d prefix id n)
