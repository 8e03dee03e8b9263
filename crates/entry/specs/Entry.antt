-- A tree entry as Git has it, and the bytes of a listing as written (docs/FORMAT.md, "Entries"). Assumes nothing.
use Rattle.std.specs.Prelude.{ℕ, List, [], ◌∷◌, ◌++◌, map}
use Rattle.mode_text.specs.Write.{write_mode}
use Rattle.entry.specs.Record.{name_of, id_of}
use Rattle.entry.specs.declared.EntryRecord.{EntryRecord}

-- a mode, the bytes of a name, and the bytes of an id
pub record Entry : Type 0 where
  pub mode : ℕ
  pub name : List ℕ
  pub id : List ℕ

-- mode text, space, name, NUL, id
unfoldable pub entry_bytes : Entry → List ℕ
entry_bytes e = write_mode e.mode ++ 32 ∷ (e.name ++ 0 ∷ e.id)

-- a listing as written: its entries' bytes one after the other
unfoldable pub as_written : List Entry → List ℕ
as_written [] = []
as_written (e ∷ es) = entry_bytes e ++ as_written es

-- the entry that a record names in lent bytes
unfoldable pub entry_of : ℕ → List ℕ → EntryRecord → Entry
entry_of h s r = record { mode = r.mode; name = name_of s r; id = id_of h s r }

-- the entries that records name
abbrev pub entries_of : ℕ → List ℕ → List EntryRecord → List Entry
entries_of h s rs = map (entry_of h s) rs
