-- The walk: two folders are compared by their entries, and two entries that are folders by their objects (docs/FORMAT.md, "Differences").
-- Assumes nothing.
use Rattle.std.specs.Prelude.{ℕ, zero, suc, ◌+◌, Bool, ◌&&◌, not, ◌≡◌, List, [], ◌∷◌, ◌++◌, eqb, ltb, length}
use Rattle.ground.specs.Basics.{pick}
use Rattle.ground.specs.Verdict.{verdict, fine, most_records}
use Rattle.ground.specs.declared.Verdict.{Verdict}
use Rattle.order.specs.Order.{name_order}
use Rattle.merge.specs.Merge.{by_order}
use Rattle.item.specs.Items.{Side, absent, Named, is_folder, Item, Folder, shut, holds, join, same_id, same_side}

-- what a walk gives: the items as far as it came, and its verdict
pub record Out : Type 0 where
  pub items : List Item
  pub verdict : Verdict

-- no item, and a verdict; and no item at all
abbrev pub refused_by : Verdict → Out
refused_by v = record { items = []; verdict = v }

abbrev pub nothing : Out
nothing = refused_by fine

-- nothing was refused
abbrev pub Done : Out → Type 0
Done o = o.verdict.number ≡ 0

-- one more item after n of them: 2 for one past the bound
unfoldable pub put : ℕ → Item → Out
put n x = pick (ltb n most_records) (record { items = x ∷ []; verdict = fine }) (refused_by (verdict 2 0))

-- a walk that begins after n items, and what comes after it unless it was refused; that one is told the number of items by then
unfoldable pub and_then : ℕ → Out → (ℕ → Out) → Out
and_then n o go =
    pick (eqb o.verdict.number 0)
    (record { items = o.items ++ (go (n + length o.items)).items; verdict = (go (n + length o.items)).verdict }) o

-- the folders of two ids compared, the path of both and the number of items so far being known
abbrev pub Lower : Type 0
Lower = List ℕ → List ℕ → List ℕ → ℕ → Out

-- an item under a name; then, where it is deep, all that differs inside; then the rest
unfoldable pub change : Lower → List ℕ → ℕ → List ℕ → Bool → Side → Side → (ℕ → Out) → Out
change below prefix n name deep l r go =
    and_then n (put n (record { path = join prefix name; left = l; right = r }))
    (λ m. and_then m (pick deep (below (join prefix name) l.id r.id m) nothing) go)

-- an entry on one side; a folder comes with all that is below it
abbrev pub left_only : Lower → List ℕ → ℕ → Named → (ℕ → Out) → Out
left_only below prefix n l go = change below prefix n l.name (is_folder l) l.side absent go

abbrev pub right_only : Lower → List ℕ → ℕ → Named → (ℕ → Out) → Out
right_only below prefix n r go = change below prefix n r.name (is_folder r) absent r.side go

-- an entry on both sides: an item where mode or id is another. Folders with equal ids stay shut
unfoldable pub both : Lower → List ℕ → ℕ → Named → Named → (ℕ → Out) → Out
both below prefix n l r go =
    pick (same_side l.side r.side) (go n)
    (change below prefix n l.name (is_folder l && not (same_id l.side r.side)) l.side r.side go)

-- the right entries, once no left ones are left
unfoldable pub rights : Lower → List ℕ → ℕ → List Named → Out
rights below prefix n [] = nothing
rights below prefix n (r ∷ rs) = right_only below prefix n r (λ m. rights below prefix m rs)

-- a left entry beside the right ones: those below it in Git's order come first
unfoldable pub against : Lower → List ℕ → Named → (ℕ → List Named → Out) → ℕ → List Named → Out
against below prefix l next n [] = left_only below prefix n l (λ m. next m [])
against below prefix l next n (r ∷ rs) =
    by_order (name_order l.name (is_folder l) r.name (is_folder r))
    (left_only below prefix n l (λ m. next m (r ∷ rs)))
    (both below prefix n l r (λ m. next m rs))
    (right_only below prefix n r (λ m. against below prefix l next m rs))

-- the entries of two folders, merged in Git's order over name and sort
unfoldable pub compare_entries : Lower → List ℕ → List Named → ℕ → List Named → Out
compare_entries below prefix [] n rs = rights below prefix n rs
compare_entries below prefix (l ∷ ls) n rs = against below prefix l (compare_entries below prefix ls) n rs

-- a folder's entries are gone on with, unless it cannot be opened
unfoldable pub opened : Folder → (List Named → Out) → Out
opened (shut v) go = refused_by v
opened (holds es) go = go es

-- two folders with so many levels to go: 27 with none; the left is opened, then the right, then their entries are compared
unfoldable pub compare_folders : (List ℕ → Folder) → ℕ → Lower
compare_folders folder zero prefix a b n = refused_by (verdict 27 0)
compare_folders folder (suc d) prefix a b n =
    opened (folder a) (λ ls. opened (folder b) (λ rs. compare_entries (compare_folders folder d) prefix ls n rs))

-- the levels of folders that may be opened: the roots are at depth 0, and the last is at depth 32
abbrev pub levels : ℕ
levels = 33
