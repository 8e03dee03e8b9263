-- One entry at the front of some bytes, and the step of a cursor over an object (docs/FORMAT.md, "Entries"). Assumes nothing.
use Rattle.std.specs.Prelude.{ℕ, ◌+◌, ◌-◌, true, false, List, length, drop, eqb, leb, Err, None, Ok, Option, Result, Some, ⊤}
use Rattle.ground.specs.Basics.{pick}
use Rattle.ground.specs.Scan.{count_to}
use Rattle.ground.specs.Verdict.{fine, broken, gate_of}
use Rattle.ground.specs.declared.Verdict.{Verdict}
use Rattle.mode.specs.Read.{read_mode}
use Rattle.entry.specs.Record.{no_record}
use Rattle.entry.specs.declared.EntryRecord.{EntryRecord}
use Rattle.entry.specs.declared.Cursor.{Cursor}
use Rattle.entry.specs.declared.Step.{Step}
use Rattle.mode.specs.declared.EntryMode.{EntryMode}

-- 3, at the entry's first byte, with the part that cannot be read
abbrev pub broken_at : ℕ → ℕ → Result (EntryRecord × Cursor) Verdict
broken_at at part = Err (broken at part)

-- the part that is missing where so many bytes stand from the name's end on: 2 where there is no NUL, 3 where fewer than h bytes follow it
unfoldable pub short_part : ℕ → ℕ
short_part left = pick (eqb left 0) 2 3

-- the record of an entry at a place whose mode text and space take n bytes and whose name has t
abbrev pub record_at : ℕ → ℕ → ℕ → ℕ → EntryRecord
record_at at m n t = record { mode = m; name_start = at + n; name_end = at + n + t; id_start = at + n + (t + 1); text_start = at }

-- past the mode text: the name runs to the first NUL, and h bytes follow it
unfoldable pub decode_name : ℕ → ℕ → ℕ → ℕ → List ℕ → Result (EntryRecord × Cursor) Verdict
decode_name h at m n c =
    pick (leb (count_to 0 c + 1 + h) (length c))
    (Ok (record_at at m n (count_to 0 c), record { at = at + n + (count_to 0 c + 1 + h) })) (broken_at at (short_part (length c - count_to 0 c)))

unfoldable pub decode_mode : ℕ → ℕ → List ℕ → Option (EntryMode × ℕ) → Result (EntryRecord × Cursor) Verdict
decode_mode h at b (Some (m, n)) = decode_name h at m.internal n (drop n b)
decode_mode h at b None = broken_at at 1

-- the entry at the front of the bytes b, which stand at a place of an object: mode text, name, NUL, id of h bytes
unfoldable pub decode : ℕ → ℕ → List ℕ → Result (EntryRecord × Cursor) Verdict
decode h at b = decode_mode h at b (read_mode b)

-- the verdict of decoding: done where an entry was read
abbrev pub decoded_verdict : Result (EntryRecord × Cursor) Verdict → Verdict
decoded_verdict (Ok (e, next)) = fine
decoded_verdict (Err v) = v

-- a step that found no entry
abbrev pub no_entry : Verdict → Cursor → Step
no_entry v next = record { verdict = v; found = false; entry = no_record; next = next }

-- a step over an entry; after a 3 the cursor stands at the end
unfoldable pub step_over : ℕ → Result (EntryRecord × Cursor) Verdict → Step
step_over end (Ok (e, next)) = record { verdict = fine; found = true; entry = e; next = next }
step_over end (Err v) = no_entry v (record { at = end })

unfoldable pub step_from : ℕ → List ℕ → Cursor → Result ⊤ Verdict → Step
step_from h s c (Err v) = no_entry v c
step_from h s c (Ok tt) = pick (leb (length s) c.at) (no_entry fine c) (step_over (length s) (decode h c.at (drop c.at s)))

-- 1 and 2 leave the cursor as given; at or past the end it finds nothing; else it reads one entry
unfoldable pub step_of : ℕ → List ℕ → Cursor → Step
step_of h s c = step_from h s c (gate_of h (length s) 0)
