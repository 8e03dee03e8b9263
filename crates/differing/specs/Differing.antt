-- What is claimed of a difference (docs/FORMAT.md, "Differences"): of any folders, and of the folders of every store. `proofs/` prove it.
-- Assumes nothing.
use Rattle.std.specs.Prelude.{ℕ, zero, suc, ◌<◌, Bool, true, false, ◌||◌, ◌≡◌, List, [], ◌∷◌, ◌++◌, map, ◌↔◌, Ok}
use Rattle.ground.specs.Basics.{pick}
use Rattle.ground.specs.Scan.{free_of}
use Rattle.ground.specs.Verdict.{verdict}
use Rattle.mode.specs.Mode.{is_tree}
use Rattle.order.specs.Order.{name_order}
use Rattle.rules.specs.Rules.{permitted}
use Rattle.strict.specs.Strict.{strict_count}
use Rattle.item.specs.Items.{Side, absent, Named, is_folder, Item, Stored, object, Folder, holds, folder_of, join, entry_of}
use Rattle.walk.specs.Walk.{Lower, Out, refused_by, nothing, Done, put, and_then, opened, compare_entries, compare_folders}
use Rattle.std.specs.declared.cmp.Ordering.TheVariants.{Less}

-- ---- no item exactly where nothing differs

-- no name has a slash
abbrev pub Slashless : List Named → Type 0
Slashless [] = Unit {0}
Slashless (e ∷ es) = (free_of 47 e.name ≡ true) × Slashless es

-- of two folders that can be opened: where nothing is refused, there is no item exactly when their entries are equal
abbrev pub EmptyExactly : Type 0
EmptyExactly =
    (folder : List ℕ → Folder) (d : ℕ) (prefix a b : List ℕ) (n : ℕ) (ls rs : List Named)
    → folder a ≡ holds ls → folder b ≡ holds rs → Slashless ls → Slashless rs → Done (compare_folders folder d prefix a b n)
    → ((compare_folders folder d prefix a b n).items ≡ []) ↔ (map entry_of ls ≡ map entry_of rs)

-- ---- folders with equal ids stay shut

-- whatever is said of two folders with one id, unless it is the id of nothing, makes no difference to a comparison of entries
abbrev pub EqualUnopened : Type 0
EqualUnopened =
    (below below' : Lower) → ((path a b : List ℕ) (n : ℕ) → (a ≡ b → a ≡ []) → below path a b n ≡ below' path a b n)
    → (prefix : List ℕ) (ls : List Named) (n : ℕ) (rs : List Named) → compare_entries below prefix ls n rs ≡ compare_entries below' prefix ls n rs

-- ---- Git's order

-- an item is a folder's
abbrev pub of_folder : Item → Bool
of_folder x = is_tree x.left.mode || is_tree x.right.mode

-- what came before: nothing, or a name and its sort
pub data Bound : Type 0 where
  any : Bound
  past : List ℕ → Bool → Bound

-- a name and sort strictly behind it in Git's order
abbrev pub Beyond : Bound → List ℕ → Bool → Type 0
Beyond any name sort = Unit {0}
Beyond (past n s) name sort = name_order n s name sort ≡ Less

-- entries that ascend, under names that strict reading permits
abbrev pub Ascending : Bound → List Named → Type 0
Ascending b [] = Unit {0}
Ascending b (e ∷ es) = (permitted e.name ≡ true) × Beyond b e.name (is_folder e) × Ascending (past e.name (is_folder e)) es

-- items below a path, level by level: one whose name lies behind the last, its inner items in order if it is a folder's and none if not, the rest
pub data InOrder : List ℕ → Bound → List Item → Type 0 where
  none : {prefix : List ℕ} {b : Bound} → InOrder prefix b []
  block : {prefix : List ℕ} {b : Bound} {x : Item} {inner rest : List Item} (name : List ℕ) (sort : Bool)
      → x.path ≡ join prefix name → of_folder x ≡ sort → permitted name ≡ true → Beyond b name sort
      → InOrder (join prefix name) any inner → (sort ≡ false → inner ≡ []) → InOrder prefix (past name sort) rest → InOrder prefix b (x ∷ (inner ++ rest))

-- of folders whose entries ascend: the items are in order, those up to a refusal too
abbrev pub GitOrder : Type 0
GitOrder =
    (folder : List ℕ → Folder) → ((id : List ℕ) (es : List Named) → folder id ≡ holds es → Ascending any es)
    → (d : ℕ) (prefix a b : List ℕ) (n : ℕ) → InOrder prefix any (compare_folders folder d prefix a b n).items

-- ---- no item twice

-- two items with another path or of another sort
abbrev pub Differs : Item → Item → Type 0
Differs x y = x.path ≡ y.path → of_folder x ≡ of_folder y → ⊥

abbrev pub All : (Item → Type 0) → List Item → Type 0
All P [] = Unit {0}
All P (x ∷ xs) = P x × All P xs

abbrev pub Distinct : List Item → Type 0
Distinct [] = Unit {0}
Distinct (x ∷ xs) = All (Differs x) xs × Distinct xs

-- ---- a folder on one side

-- each entry as an item, and behind a folder's all that is below it
unfoldable pub every_entry : (List ℕ → Side → Item) → (List ℕ → List ℕ → ℕ → Out) → List ℕ → List Named → ℕ → Out
every_entry item below prefix [] n = nothing
every_entry item below prefix (e ∷ es) n =
    and_then n (put n (item (join prefix e.name) e.side))
    (λ m. and_then m (pick (is_folder e) (below (join prefix e.name) e.side.id m) nothing) (λ k. every_entry item below prefix es k))

-- a folder listed whole, with so many levels to go
unfoldable pub everything : (List ℕ → Side → Item) → (List ℕ → Folder) → ℕ → List ℕ → List ℕ → ℕ → Out
everything item folder zero prefix id n = refused_by (verdict 27 0)
everything item folder (suc d) prefix id n = opened (folder id) (λ es. every_entry item (everything item folder d) prefix es n)

-- an item that is only left, and one that is only right
abbrev pub left_item : List ℕ → Side → Item
left_item path x = record { path = path; left = x; right = absent }

abbrev pub right_item : List ℕ → Side → Item
right_item path x = record { path = path; left = absent; right = x }

-- compared with nothing, a folder is listed whole
abbrev pub OneSide : Type 0
OneSide =
    (folder : List ℕ → Folder) → folder [] ≡ holds [] → (d : ℕ) (prefix id : List ℕ) (n : ℕ)
    → (compare_folders folder d prefix id [] n ≡ everything left_item folder d prefix id n)
    × (compare_folders folder d prefix [] id n ≡ everything right_item folder d prefix id n)

-- ---- of the folders of every store, read by a rule set k with ids of h bytes

abbrev pub StoreOrder : Type 0
StoreOrder = (k h : ℕ) (store : List ℕ → Stored) (d : ℕ) (a b : List ℕ) → InOrder [] any (compare_folders (folder_of k h store) d [] a b 0).items

abbrev pub StoreDistinct : Type 0
StoreDistinct = (k h : ℕ) (store : List ℕ → Stored) (d : ℕ) (a b : List ℕ) → Distinct (compare_folders (folder_of k h store) d [] a b 0).items

abbrev pub StoreEmpty : Type 0
StoreEmpty =
    (k h : ℕ) (store : List ℕ → Stored) (d : ℕ) (a b : List ℕ) (ls rs : List Named) → folder_of k h store a ≡ holds ls → folder_of k h store b ≡ holds rs
    → Done (compare_folders (folder_of k h store) d [] a b 0) → ((compare_folders (folder_of k h store) d [] a b 0).items ≡ []) ↔ (map entry_of ls ≡ map entry_of rs)

-- of two roots that are trees which strict reading takes, with ids of more than six bytes: where nothing is refused, there is no item exactly when their
-- bytes are equal
abbrev pub StoreSameBytes : Type 0
StoreSameBytes =
    (k h : ℕ) (store : List ℕ → Stored) (d x y : ℕ) (a b : List ℕ) (p q n m : ℕ) (s t : List ℕ) → 6 < h
    → store (x ∷ a) ≡ object 2 p s → strict_count k h s ≡ Ok n → store (y ∷ b) ≡ object 2 q t → strict_count k h t ≡ Ok m
    → Done (compare_folders (folder_of k h store) d [] (x ∷ a) (y ∷ b) 0)
    → ((compare_folders (folder_of k h store) d [] (x ∷ a) (y ∷ b) 0).items ≡ []) ↔ (s ≡ t)
