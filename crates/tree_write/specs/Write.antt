-- What writing a tree object answers, and its size asked alone (docs/FORMAT.md, "Tree writing"). Assumes nothing.
use Rattle.std.specs.Prelude.{ℕ, ◌+◌, ◌-◌, max, Bool, true, false, ◌&&◌, not, List, [], ◌∷◌, eqb, length}
use Rattle.ground.specs.Basics.{pick}
use Rattle.ground.specs.Scan.{free_of}
use Rattle.ground.specs.Verdict.{verdict, fine, counted, refused, gate_of}
use Rattle.ground.specs.declared.Verdict.{Verdict}
use Rattle.ground.specs.declared.Answer.{Answer}
use Rattle.output.specs.Output.{gated, fitted}
use Rattle.mode_text.specs.Write.{write_mode}
use Rattle.entry.specs.Record.{records_of, well_formed, name_of}
use Rattle.entry.specs.Entry.{as_written, entries_of}
use Rattle.entry.specs.declared.EntryRecord.{EntryRecord}

-- the bytes of the tree object that the records name: each entry as written, in the order given
abbrev pub written : ℕ → List ℕ → List EntryRecord → List ℕ
written h bytes es = as_written (entries_of h bytes es)

-- the length of one entry: mode text, space, name, NUL, id
unfoldable pub entry_size : ℕ → EntryRecord → ℕ
entry_size h e = length (write_mode e.mode) + 1 + (e.name_end - e.name_start) + 1 + h

-- the number that refuses a record, or 0: 10 where it is not well formed, then 9 where its name is to be written and has a NUL
unfoldable pub refusal : Bool → ℕ → List ℕ → EntryRecord → ℕ
refusal writing h bytes e = pick (well_formed h (length bytes) e) (pick (writing && not (free_of 0 (name_of bytes e))) 9 0) 10

-- the verdict on records from index i on: that of the first one refused
unfoldable pub judged : Bool → ℕ → List ℕ → ℕ → List EntryRecord → Verdict
judged writing h bytes i [] = fine
judged writing h bytes i (e ∷ es) =
    pick (eqb (refusal writing h bytes e) 0) (judged writing h bytes (i + 1) es) (verdict (refusal writing h bytes e) i)

-- what the records from index i on take, after so many bytes; or the first refusal
unfoldable pub measured : Bool → ℕ → List ℕ → ℕ → ℕ → List EntryRecord → Answer
measured writing h bytes i sum es =
    pick (eqb (judged writing h bytes i es).number 0) (counted (sum + length (written h bytes es))) (refused (judged writing h bytes i es))

-- the size: 1, 2, then the first record that is not well formed
unfoldable pub tree_size : ℕ → List ℕ → List ℕ → Answer
tree_size h bytes records = gated (gate_of h (length bytes) (length (records_of records))) (measured false h bytes 0 0 (records_of records))

-- writing into so much room: 1, 2, then the first record refused, then 8
unfoldable pub tree_answer : ℕ → List ℕ → List ℕ → ℕ → Answer
tree_answer h bytes records room =
    gated (gate_of h (max (length bytes) room) (length (records_of records))) (fitted room (measured true h bytes 0 0 (records_of records)))
