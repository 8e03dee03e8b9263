-- What reading an object entry by entry meets: a list of entries with an ending (docs/FORMAT.md, "Reading"). Assumes nothing.
use Rattle.std.specs.Prelude.{ℕ, zero, suc, ◌+◌, ◌-◌, List, [], ◌∷◌, ◌++◌, drop, Err, Ok, Result}
use Rattle.ground.specs.Verdict.{verdict, most_records}
use Rattle.ground.specs.declared.Verdict.{Verdict}
use Rattle.entry.specs.Record.{flat}
use Rattle.entry.specs.Decode.{decode}
use Rattle.entry.specs.declared.EntryRecord.{EntryRecord}
use Rattle.entry.specs.declared.Cursor.{Cursor}

-- the entries in turn, each with the position of its first byte and its record; then the end of the object, or the refusal that reading met
pub data Listing : Type 0 where
  done : Listing
  stop : Verdict → Listing
  entry : ℕ → EntryRecord → Listing → Listing

-- a decoded entry, and what is read past it
unfoldable pub follow : (ℕ → List ℕ → Listing) → ℕ → List ℕ → Result (EntryRecord × Cursor) Verdict → Listing
follow go at b (Ok (e, next)) = entry at e (go next.at (drop (next.at - at) b))
follow go at b (Err v) = stop v

-- the bytes b, which stand at a place of the object, read entry by entry, where at most so many may come: 2 where more bytes remain
unfoldable pub plain : ℕ → ℕ → ℕ → List ℕ → Listing
plain h zero at [] = done
plain h zero at (x ∷ xs) = stop (verdict 2 0)
plain h (suc left) at [] = done
plain h (suc left) at (x ∷ xs) = follow (plain h left) at (x ∷ xs) (decode h at (x ∷ xs))

-- a whole object
abbrev pub listing : ℕ → List ℕ → Listing
listing h s = plain h most_records 0 s

-- the records that were read
unfoldable pub records_in : Listing → List EntryRecord
records_in done = []
records_in (stop v) = []
records_in (entry at e l) = e ∷ records_in l

-- the same as flat numbers
unfoldable pub flats : List EntryRecord → List ℕ
flats [] = []
flats (e ∷ es) = flat e ++ flats es

-- how many entries there are, n counted already; or the refusal
unfoldable pub tally : ℕ → Listing → Result ℕ Verdict
tally n done = Ok n
tally n (stop v) = Err v
tally n (entry at e l) = tally (n + 1) l
