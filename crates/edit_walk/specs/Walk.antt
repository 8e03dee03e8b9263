-- What one walk over an object gives that leaves out the entries of a name and puts a new entry (docs/FORMAT.md, "Edits"). Assumes nothing.
use Rattle.std.specs.Prelude.{ℕ, ◌+◌, max, Bool, true, false, List, [], ◌++◌, length, Err, Ok, Result, ⊤}
use Rattle.ground.specs.Basics.{pick, part}
use Rattle.ground.specs.Scan.{same_bytes}
use Rattle.ground.specs.Verdict.{size_gate}
use Rattle.mode.specs.Mode.{is_tree}
use Rattle.order.specs.Order.{is_below, name_order}
use Rattle.entry.specs.Record.{name_of, folder_of}
use Rattle.entry.specs.Entry.{Entry, entry_bytes}
use Rattle.entry.specs.declared.EntryRecord.{EntryRecord}
use Rattle.reading.specs.Listing.{Listing, done, stop, entry, plain}
use Rattle.edit_walk.specs.declared.Walked.{Walked}
use Rattle.ground.specs.declared.Verdict.{Verdict}

-- the entry that a mode, a name and an id make
abbrev pub new_entry : ℕ → List ℕ → List ℕ → Entry
new_entry mode name id = record { mode = mode; name = name; id = id }

-- an entry of the object s stands before a new name
unfoldable pub ahead : List ℕ → EntryRecord → List ℕ → Bool → Bool
ahead s e name tree = is_below (name_order (name_of s e) (folder_of e) name tree)

-- the new entry, where it is not placed yet
abbrev pub tail : Entry → Bool → List ℕ
tail new true = []
tail new false = entry_bytes new

-- the bytes of the edited object: those of the entries carried over, and of the new one
unfoldable pub carried : ℕ → List ℕ → Entry → Bool → Listing → List ℕ
carried h s new placed done = tail new placed
carried h s new placed (stop v) = tail new placed
carried h s new placed (entry at e l) =
    pick (same_bytes (name_of s e) new.name) (carried h s new placed l)
    (pick placed (part at (e.id_start + h) s ++ carried h s new placed l)
    (pick (ahead s e new.name (is_tree new.mode)) (part at (e.id_start + h) s ++ carried h s new placed l)
    (entry_bytes new ++ (part at (e.id_start + h) s ++ carried h s new true l))))

-- how many entries are carried over
unfoldable pub kept_in : List ℕ → List ℕ → Listing → ℕ
kept_in s name done = 0
kept_in s name (stop v) = 0
kept_in s name (entry at e l) = pick (same_bytes (name_of s e) name) (kept_in s name l) (1 + kept_in s name l)

-- what is done behind an open gate, and what stands for it behind a shut one
abbrev pub begun : {A : Type 0} → Result ⊤ Verdict → A → A → A
begun (Ok tt) a b = a
begun (Err v) a b = b

-- the bounds of the object, the name, the id and the count
unfoldable pub walk_gate : List ℕ → ℕ → Entry → Result ⊤ Verdict
walk_gate s count new = size_gate (max (length s) (max (length new.name) (length new.id))) count

-- the bytes of a walk over the first entries of an object, so many
unfoldable pub walk_bytes : ℕ → List ℕ → ℕ → Entry → Bool → List ℕ
walk_bytes h s count new placed = begun (walk_gate s count new) (carried h s new placed (plain h count 0 s)) []

-- what it takes
unfoldable pub walk_of : ℕ → List ℕ → ℕ → Entry → Bool → Walked
walk_of h s count new placed =
    record { used = length (walk_bytes h s count new placed); kept = begun (walk_gate s count new) (kept_in s new.name (plain h count 0 s)) 0 }
