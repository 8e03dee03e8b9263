-- The call `compare_trees`: its answer, and what was lent afterwards (docs/FORMAT.md, "Differences"). Assumes nothing.
use Rattle.std.specs.Prelude.{ℕ, max, List, [], eqb, length, Err, None, Ok, Option, Result, Some, ⊤}
use Rattle.ground.specs.Basics.{pick, part}
use Rattle.ground.specs.Verdict.{verdict, size_gate, stored}
use Rattle.ground.specs.declared.Answer.{Answer}
use Rattle.frame.specs.Place.{place_of}
use Rattle.frame.specs.declared.Header.{Header}
use Rattle.bundle.specs.Bundle.{open_of}
use Rattle.item.specs.Items.{Stored, missing, object, Folder, folder_of}
use Rattle.walk.specs.Walk.{Out, refused_by, levels, compare_folders}
use Rattle.walk.specs.Lent.{paths_of, numbers_of, items_in, fitted}
use Rattle.frame.specs.declared.Frame.{Frame}
use Rattle.ground.specs.declared.Verdict.{Verdict}

-- ---- a bundle as a store

unfoldable pub stored_at : List ℕ → Option Frame → Stored
stored_at s None = missing
stored_at s (Some f) = object f.kind f.start (part f.start f.end s)

unfoldable pub store_of : List ℕ → List ℕ → Stored
store_of s id = stored_at s (place_of s id)

-- the folders of a bundle, read by its own rule set and id length
abbrev pub folders_of : Header → List ℕ → List ℕ → Folder
folders_of k s = folder_of k.rules k.h (store_of s)

-- how two roots differ
unfoldable pub differences : Header → List ℕ → List ℕ → List ℕ → Out
differences k s left right = compare_folders (folders_of k s) levels [] left right 0

-- ---- the whole: 2, 24, 25, then the walk

-- 24 for roots of two lengths, which cannot both be H; then as a bundle is opened for one
unfoldable pub roots_of : List ℕ → ℕ → ℕ → Result Header Verdict
roots_of s left right = pick (eqb left right) (open_of s left) (Err (verdict 24 0))

unfoldable pub walked : List ℕ → List ℕ → List ℕ → Result Header Verdict → Out
walked s left right (Err v) = refused_by v
walked s left right (Ok k) = differences k s left right

unfoldable pub gated : List ℕ → List ℕ → List ℕ → Result ⊤ Verdict → Out
gated s left right (Err v) = refused_by v
gated s left right (Ok tt) = walked s left right (roots_of s (length left) (length right))

-- what the call finds where so many bytes for paths and so many items are lent
unfoldable pub found : List ℕ → List ℕ → List ℕ → ℕ → ℕ → Out
found s left right bytes room = gated s left right (size_gate (max (max (length s) bytes) (max (length left) (length right))) room)

unfoldable pub answer : List ℕ → List ℕ → List ℕ → ℕ → ℕ → Answer
answer s left right bytes room = fitted room bytes (found s left right bytes room)

-- the lent items and the lent bytes afterwards
abbrev pub items_after : List ℕ → List ℕ → List ℕ → ℕ → List ℕ → List ℕ
items_after s left right bytes items =
    stored (answer s left right bytes (items_in (length items))).verdict (numbers_of 0 (found s left right bytes (items_in (length items))).items) items

abbrev pub paths_after : List ℕ → List ℕ → List ℕ → List ℕ → ℕ → List ℕ
paths_after s left right paths room =
    stored (answer s left right (length paths) room).verdict (paths_of (found s left right (length paths) room).items) paths
