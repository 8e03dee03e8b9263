-- What the check in pieces answers, said of the whole object: strict reading, with 16 and 2 (docs/FORMAT.md, "A check in pieces"). Assumes nothing.
use Rattle.std.specs.Prelude.{ℕ, zero, suc, ◌+◌, ◌-◌, Bool, List, [], ◌∷◌, length, take, drop, ltb, leb, Err, None, Ok, Option, Result, Some, ⊤}
use Rattle.ground.specs.Basics.{pick}
use Rattle.ground.specs.Scan.{count_to}
use Rattle.ground.specs.Verdict.{verdict, broken, counted, refused, most_bytes, most_records}
use Rattle.ground.specs.declared.Verdict.{Verdict}
use Rattle.ground.specs.declared.Answer.{Answer}
use Rattle.mode.specs.Read.{read_mode}
use Rattle.entry.specs.Decode.{record_at, broken_at, short_part}
use Rattle.rules.specs.Rules.{Rules, git_rules}
use Rattle.rules.specs.Gate.{rule_gate}
use Rattle.reading.specs.Listing.{Listing, done, stop, follow, tally}
use Rattle.strict.specs.Strict.{cut}
use Rattle.arriving.specs.Feed.{most_held}
use Rattle.entry.specs.declared.Cursor.{Cursor}
use Rattle.entry.specs.declared.EntryRecord.{EntryRecord}
use Rattle.mode.specs.declared.EntryMode.{EntryMode}

-- bytes that end inside an entry: 3 at its first byte, with the part, where the object ends there; 2 where more bytes follow, past the bound
abbrev pub short_at : Bool → ℕ → ℕ → Verdict
short_at more at part = pick more (verdict 2 0) (broken at part)

-- bytes that end between two entries: done, or 2 likewise
abbrev pub end_at : Bool → Listing
end_at more = pick more (stop (verdict 2 0)) done

-- past the mode text: 16 where the name passes the most bytes that are held before a NUL, ahead of all that may come behind it
unfoldable pub held_name : Bool → ℕ → ℕ → ℕ → ℕ → List ℕ → Result (EntryRecord × Cursor) Verdict
held_name more h at m n c =
    pick (ltb most_held (count_to 0 c)) (Err (verdict 16 at))
    (pick (leb (count_to 0 c + 1 + h) (length c))
    (Ok (record_at at m n (count_to 0 c), record { at = at + n + (count_to 0 c + 1 + h) }))
    (Err (short_at more at (short_part (length c - count_to 0 c)))))

unfoldable pub held_mode : Bool → ℕ → ℕ → List ℕ → Option (EntryMode × ℕ) → Result (EntryRecord × Cursor) Verdict
held_mode more h at b (Some (m, n)) = held_name more h at m.internal n (drop n b)
held_mode more h at b None = broken_at at 1

-- the bytes b, which stand at a place of the object, entry by entry, where at most so many may come
unfoldable pub arriving : Bool → ℕ → ℕ → ℕ → List ℕ → Listing
arriving more h zero at [] = end_at more
arriving more h zero at (x ∷ xs) = stop (verdict 2 0)
arriving more h (suc left) at [] = end_at more
arriving more h (suc left) at (x ∷ xs) = follow (arriving more h left) at (x ∷ xs) (held_mode more h at (x ∷ xs) (read_mode (x ∷ xs)))

-- what was counted, or the refusal
abbrev pub told : Result ℕ Verdict → Answer
told (Ok n) = counted n
told (Err v) = refused v

-- the bytes s, more following or not, under rules
abbrev pub check_in : Rules → Bool → ℕ → List ℕ → Answer
check_in R more h s = told (tally 0 (cut R h s [] (arriving more h most_records 0 s)))

-- a call that may not begin, or its answer
abbrev pub or_shut : Result ⊤ Verdict → Answer → Answer
or_shut (Ok tt) a = a
or_shut (Err v) a = refused v

-- the whole object, by a rule set: 1, 19; else the strict reading of its bytes up to the bound
unfoldable pub check_of : ℕ → ℕ → List ℕ → Answer
check_of h k s = or_shut (rule_gate k h 0 0) (check_in (git_rules k) (ltb most_bytes (length s)) h (take most_bytes s))
