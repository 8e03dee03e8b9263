-- What the private leaves of the strict reader answer, by positions in the object. Assumes nothing.
use Rattle.std.specs.Prelude.{ℕ, ◌+◌, ◌-◌, ◌*◌, ◌<◌, ◌≤◌, ◌≡◌, List, [], ◌∷◌, eqb, length, get_or, drop, Err, None, Ok, Option, Result, Some}
use Rattle.ground.specs.Basics.{pick, part}
use Rattle.ground.specs.Verdict.{verdict, most_bytes}
use Rattle.entry.specs.Record.{name_of, folder_of}
use Rattle.entry.specs.Decode.{decode}
use Rattle.entry.specs.declared.EntryRecord.{EntryRecord}
use Rattle.doubles.specs.Stack.{place_of, marks_of}
use Rattle.rules.specs.Rules.{or_else, is_text, modes_of, name_number, reserved_number}
use Rattle.strict.specs.Strict.{text_of}
use Rattle.doubles.specs.declared.Misplaced.{Misplaced}
use Rattle.entry.specs.declared.Cursor.{Cursor}
use Rattle.ground.specs.declared.Verdict.{Verdict}

-- an entry at a place lies inside so many bytes
abbrev pub Within : ℕ → ℕ → EntryRecord → Type 0
Within len at e = (at < e.name_start) × (e.name_start ≤ e.name_end) × (e.name_end ≤ len)

-- so does the name of the entry before, if there is one
abbrev pub LastWithin : ℕ → Option EntryRecord → Type 0
LastWithin len None = Unit {0}
LastWithin len (Some p) = (p.name_start ≤ p.name_end) × (p.name_end ≤ len)

-- NUL and an id stand behind the name between two places, and it is not reserved
abbrev pub NameKept : ℕ → List ℕ → ℕ → ℕ → Type 0
NameKept h s start end = (h < length s - end) × (get_or s end 0 ≡ 0) × (reserved_number (part start end s) ≡ 0)

-- the entry before, of those that were read, the nearest first
abbrev pub last_of : List EntryRecord → Option EntryRecord
last_of [] = None
last_of (p ∷ ps) = Some p

-- what is said of an entry by itself: 5, 6, 18 or 0
unfoldable pub entry_no : ℕ → List ℕ → ℕ → EntryRecord → ℕ
entry_no k s at e = or_else (pick (is_text (modes_of k) (text_of s at e)) 0 5) (name_number (name_of s e))

-- what is seen of what was decoded at a place: an entry that keeps the rules by itself, or a refusal
abbrev pub seen_by : ℕ → List ℕ → ℕ → Result (EntryRecord × Cursor) Verdict → Result (EntryRecord × Cursor) Verdict
seen_by k s at (Ok (e, next)) = pick (eqb (entry_no k s at e) 0) (Ok (e, next)) (Err (verdict (entry_no k s at e) at))
seen_by k s at (Err v) = Err v

-- and of the bytes there
abbrev pub seen_at : ℕ → ℕ → List ℕ → ℕ → Result (EntryRecord × Cursor) Verdict
seen_at k h s at = seen_by k s at (decode h at (drop at s))

-- where an entry stands after the one before, with n names open among the marks a
unfoldable pub after_at : List ℕ → List ℕ → ℕ → Option EntryRecord → EntryRecord → Result ℕ Misplaced
after_at s a n None e = Ok 0
after_at s a n (Some p) e = place_of a n (name_of s p) (folder_of p) (name_of s e) (folder_of e)

-- the marks afterwards
unfoldable pub marks_after : List ℕ → List ℕ → ℕ → Option EntryRecord → EntryRecord → List ℕ
marks_after s a n None e = a
marks_after s a n (Some p) e = marks_of a n (name_of s p) (folder_of p) (name_of s e) (folder_of e)

-- so many marks are enough for the names of so many bytes
abbrev pub Roomy : ℕ → ℕ → Type 0
Roomy bytes room = (bytes ≤ most_bytes) × (2 * bytes < room * room + room)
