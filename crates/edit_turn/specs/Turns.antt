-- What an edit does with the entry at a place of an object (docs/FORMAT.md, "Edits"). Assumes nothing.
use Rattle.std.specs.Prelude.{ℕ, Bool, List, drop, Err, None, Ok, Option, Result, Some}
use Rattle.ground.specs.Basics.{pick}
use Rattle.ground.specs.Scan.{same_bytes}
use Rattle.order.specs.Order.{is_below, name_order}
use Rattle.entry.specs.Record.{name_of, folder_of}
use Rattle.entry.specs.Decode.{decode}
use Rattle.edit_turn.specs.declared.Fate.{Fate}
use Rattle.edit_turn.specs.declared.Fate.TheVariants.{Out, Over, Behind}
use Rattle.entry.specs.declared.Cursor.{Cursor}
use Rattle.entry.specs.declared.EntryRecord.{EntryRecord}
use Rattle.ground.specs.declared.Verdict.{Verdict}

-- an entry of the name is left out; another is carried over, behind the new one if that is not placed and the entry does not stand before it
unfoldable pub fate_of : List ℕ → Bool → List ℕ → Bool → Bool → Fate
fate_of own folder name tree placed = pick (same_bytes own name) Out (pick placed Over (pick (is_below (name_order own folder name tree)) Over Behind))

-- the same with the place past the entry
abbrev pub turned : ℕ → Fate → Option (Fate × ℕ)
turned past Out = Some (Out, past)
turned past Over = Some (Over, past)
turned past Behind = Some (Behind, past)

unfoldable pub turn_of : List ℕ → List ℕ → Bool → Bool → Result (EntryRecord × Cursor) Verdict → Option (Fate × ℕ)
turn_of s name folder placed (Err v) = None
turn_of s name folder placed (Ok (e, next)) = turned next.at (fate_of (name_of s e) (folder_of e) name folder placed)

unfoldable pub turn_at : ℕ → List ℕ → ℕ → List ℕ → Bool → Bool → Option (Fate × ℕ)
turn_at h s at name tree placed = turn_of s name tree placed (decode h at (drop at s))
