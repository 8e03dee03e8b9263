-- The first entry of a name in a tree (docs/FORMAT.md, "Paths"). Assumes nothing.
use Rattle.std.specs.Prelude.{ℕ, List, [], ◌∷◌, length, None, Option, Some}
use Rattle.ground.specs.Basics.{pick}
use Rattle.ground.specs.Scan.{same_bytes}
use Rattle.entry.specs.Record.{name_of}
use Rattle.entry.specs.Entry.{Entry, entries_of}
use Rattle.reading.specs.Listing.{Listing, done, stop, entry, plain, records_in}
use Rattle.entry.specs.declared.EntryRecord.{EntryRecord}

-- what one component, or a whole path, leads to: an entry's mode and id, or nothing
pub data Found : Type 0 where
  there : ℕ → List ℕ → Found
  nowhere : Found

-- the entries of a tree in turn, up to its end or to the first that cannot be read; each takes a byte at least, so no bound ends them
unfoldable pub entries_read : ℕ → List ℕ → List Entry
entries_read h b = entries_of h b (records_in (plain h (length b) 0 b))

-- the first entry of a name, of any kind
unfoldable pub first_named : List ℕ → List Entry → Found
first_named name [] = nowhere
first_named name (e ∷ es) = pick (same_bytes e.name name) (there e.mode e.id) (first_named name es)

-- the first entry of a name in a listing, before its end or its fault
unfoldable pub first_in : List ℕ → List ℕ → Listing → Option EntryRecord
first_in b name done = None
first_in b name (stop v) = None
first_in b name (entry at e l) = pick (same_bytes (name_of b e) name) (Some e) (first_in b name l)
