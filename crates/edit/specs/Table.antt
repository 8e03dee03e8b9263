-- Edits of a listing: a name put with its mode and id, and a name removed; and the table from names to mode and id (docs/FORMAT.md, "Edits").
-- Assumes nothing.
use Rattle.std.specs.Prelude.{ℕ, Bool, true, false, List, [], ◌∷◌}
use Rattle.ground.specs.Basics.{pick}
use Rattle.ground.specs.Scan.{same_bytes}
use Rattle.entry.specs.Entry.{Entry}
use Rattle.rules.specs.Rules.{stands_before}

-- a listing without the entries of a name, file or folder
unfoldable pub remove_from : List ℕ → List Entry → List Entry
remove_from name [] = []
remove_from name (e ∷ es) = pick (same_bytes e.name name) (remove_from name es) (e ∷ remove_from name es)

-- an entry in front of the first that does not stand before it
unfoldable pub insert : Entry → List Entry → List Entry
insert new [] = new ∷ []
insert new (e ∷ es) = pick (stands_before e new) (e ∷ insert new es) (new ∷ e ∷ es)

-- an entry in the place of all entries of its name
unfoldable pub put_in : Entry → List Entry → List Entry
put_in new es = insert new (remove_from new.name es)

-- ---- the table

-- what a table has under a name: nothing, or a mode and an id
pub data Held : Type 0 where
  none : Held
  held : ℕ → List ℕ → Held

abbrev pub Table : Type 0
Table = List ℕ → Held

-- whether it has something
unfoldable pub is_held : Held → Bool
is_held none = false
is_held (held m i) = true

-- what a listing says of a name: its first entry of that name
unfoldable pub table_of : List Entry → Table
table_of [] n = none
table_of (e ∷ es) n = pick (same_bytes e.name n) (held e.mode e.id) (table_of es n)

-- the same table with a name put, and with a name removed
unfoldable pub table_put : Entry → Table → Table
table_put new t n = pick (same_bytes new.name n) (held new.mode new.id) (t n)

unfoldable pub table_remove : List ℕ → Table → Table
table_remove name t n = pick (same_bytes name n) none (t n)
