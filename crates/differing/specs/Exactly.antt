-- What differs between two folders, said of their entries alone and not of the walk that finds it (docs/FORMAT.md, "Differences"); and that the items of a
-- difference are exactly this. `proofs/` prove it. Assumes nothing.
use Rattle.std.specs.Prelude.{ℕ, Bool, true, false, ◌&&◌, not, ◌≡◌, ◌↔◌, length, drop, Ok}
use mathlib.Core.List.{List, [], ◌++◌, Memᴰ}
use contract.Lifetimes.{Lfts}
use denote.Triple.Clauses.{AtExit}
use borrow.Fn.Kinds.{Dens, ended_of}
use Rattle.ground.specs.Verdict.{counted}
use Rattle.ground.specs.declared.Answer.{Answer}
use Rattle.frame.specs.declared.Header.{Header}
use Rattle.bundle.specs.Bundle.{open_of}
use Rattle.item.specs.Items.{absent, Named, is_folder, Item, Stored, Folder, holds, folder_of, join, same_id, same_side}
use Rattle.walk.specs.Walk.{Done, compare_folders}
use Rattle.walk.specs.Lent.{numbers_of, paths_of}
use Rattle.difference.specs.Whole.{folders_of}
use Rattle.difference.proofs.compare_trees.Kinds as kinds
use Rattle.difference.proofs.compare_trees.Reads as reads
use Rattle.differing.specs.Differing.{any, Ascending}

-- ---- two listings

-- no entry has the name and the sort of this one
abbrev pub Alone : Named → List Named → Type 0
Alone e es = (f : Named) → Memᴰ f es → e.name ≡ f.name → is_folder e ≡ is_folder f → ⊥

-- an entry that is only left, one that is only right, and one name and sort on both sides with another mode or id
pub data Changed (ls rs : List Named) : Type 0 where
  only-left : (l : Named) → Memᴰ l ls → Alone l rs → Changed ls rs
  only-right : (r : Named) → Memᴰ r rs → Alone r ls → Changed ls rs
  in_both : (l r : Named) → Memᴰ l ls → Memᴰ r rs → l.name ≡ r.name → is_folder l ≡ is_folder r → same_side l.side r.side ≡ false
      → Changed ls rs

-- its item, in the folder of a path
abbrev pub item_of : {ls rs : List Named} → List ℕ → Changed ls rs → Item
item_of prefix (only-left l m a) = record { path = join prefix l.name; left = l.side; right = absent }
item_of prefix (only-right r m a) = record { path = join prefix r.name; left = absent; right = r.side }
item_of prefix (in_both l r m k p q s) = record { path = join prefix l.name; left = l.side; right = r.side }

-- what is inside may differ too: a folder on one side, or folders on both with two ids
abbrev pub goes_on : {ls rs : List Named} → Changed ls rs → Bool
goes_on (only-left l m a) = is_folder l
goes_on (only-right r m a) = is_folder r
goes_on (in_both l r m k p q s) = is_folder l && not (same_id l.side r.side)

-- ---- two folders by their ids, at one path

-- the item of a changed entry, and whatever differs inside of a changed folder; the id of a folder that is not there is empty
pub data Differing (folder : List ℕ → Folder) : List ℕ → List ℕ → List ℕ → Item → Type 0 where
  here : {prefix a b : List ℕ} {x : Item} {ls rs : List Named} → folder a ≡ holds ls → folder b ≡ holds rs
      → (c : Changed ls rs) → x ≡ item_of prefix c → Differing folder prefix a b x
  inside : {prefix a b : List ℕ} {x : Item} {ls rs : List Named} → folder a ≡ holds ls → folder b ≡ holds rs
      → (c : Changed ls rs) → goes_on c ≡ true
      → Differing folder (item_of prefix c).path (item_of prefix c).left.id (item_of prefix c).right.id x → Differing folder prefix a b x

-- of folders whose entries ascend: where nothing is refused, the items are exactly what differs
abbrev pub Exactly : Type 0
Exactly =
    (folder : List ℕ → Folder) → ((id : List ℕ) (es : List Named) → folder id ≡ holds es → Ascending any es)
    → (d : ℕ) (prefix a b : List ℕ) (n : ℕ) → Done (compare_folders folder d prefix a b n)
    → (x : Item) → Memᴰ x (compare_folders folder d prefix a b n).items ↔ Differing folder prefix a b x

-- of the folders of every store, read by a rule set k with ids of h bytes
abbrev pub StoreExactly : Type 0
StoreExactly =
    (k h : ℕ) (store : List ℕ → Stored) (d : ℕ) (prefix a b : List ℕ) (n : ℕ) → Done (compare_folders (folder_of k h store) d prefix a b n)
    → (x : Item) → Memᴰ x (compare_folders (folder_of k h store) d prefix a b n).items ↔ Differing (folder_of k h store) prefix a b x

-- ---- the call

-- a run of `compare_trees` on a bundle and two roots: items and paths as they were lent, an answer that the contract allows, and both lists after
pub record CompareRun (s left right items paths : List ℕ) (answer : Answer) (items' paths' : List ℕ) : Type 0 where
  pub κs : Lfts 5
  pub args : Dens κs kinds.ps
  pub last : AtExit (ended_of 5 kinds.ps kinds.r) κs
  pub kept : reads.Post κs args answer last
  pub first : args.0.now ≡ s
  pub second : args.1.0.now ≡ left
  pub third : args.1.1.0.now ≡ right
  pub fourth : args.1.1.1.0.now ≡ items
  pub fifth : args.1.1.1.1.0.now ≡ paths
  pub items_left : last.1.1.1.0.now ≡ items'
  pub paths_left : last.1.1.1.1.0.now ≡ paths'

-- the bundle was opened, and there is a list of exactly what differs between its two roots: it is counted, its numbers are at the front of the items and its
-- paths at the front of the bytes for them, which both stay as they were behind that
pub record Listed (s left right items paths : List ℕ) (answer : Answer) (items' paths' : List ℕ) : Type 0 where
  pub header : Header
  pub opens : open_of s (length left) ≡ Ok header
  pub list : List Item
  pub exact : (x : Item) → Memᴰ x list ↔ Differing (folders_of header s) [] left right x
  pub count : answer ≡ counted (length list)
  pub numbers : items' ≡ numbers_of 0 list ++ drop (length (numbers_of 0 list)) items
  pub names : paths' ≡ paths_of list ++ drop (length (paths_of list)) paths

-- of every run that is done
abbrev pub CallExactly : Type 0
CallExactly =
    (s left right items paths : List ℕ) (answer : Answer) (items' paths' : List ℕ) → CompareRun s left right items paths answer items' paths'
    → answer.verdict.number ≡ 0 → Listed s left right items paths answer items' paths'
