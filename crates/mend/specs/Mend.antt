-- A tree mended: what is done to each of its entries, and the new object (docs/FORMAT.md, "Mending"). Assumes nothing.
use Rattle.std.specs.Prelude.{ℕ, max, List, leb, length, Err, Ok, Result, ⊤}
use Rattle.ground.specs.Basics.{pick}
use Rattle.ground.specs.Verdict.{verdict, fine, gate_of}
use Rattle.ground.specs.declared.Verdict.{Verdict}
use Rattle.reading.specs.Listing.{listing, tally}
use Rattle.mend.specs.declared.Mended.{Mended}
unfoldable pub use Rattle.mend_kept.specs.Kept.{among, fate_in, names_after, fates_from, kept_from, mended_entry, mended}
pub use Rattle.mend_kept.specs.Kept.{is_kept, fates_of, kept_of}

-- ---- the answer

-- refused: nothing is written
abbrev pub not_mended : Verdict → Mended
not_mended v = record { verdict = v; count = 0; entries = 0 }

-- 8 with the bytes needed where there is less room; else the bytes written, and the entries that the object has
unfoldable pub in_room : ℕ → ℕ → ℕ → Mended
in_room room need entries = pick (leb need room) (record { verdict = fine; count = need; entries = entries }) (not_mended (verdict 8 need))

-- an object that was counted: 4 with its entries where the list has room for fewer
unfoldable pub counted_answer : ℕ → List ℕ → ℕ → ℕ → Result ℕ Verdict → Mended
counted_answer h s list room (Err v) = not_mended v
counted_answer h s list room (Ok n) = pick (leb n list) (in_room room (length (mended h s)) n) (not_mended (verdict 4 n))

unfoldable pub answer_by : Result ⊤ Verdict → Mended → Mended
answer_by (Ok tt) a = a
answer_by (Err v) a = not_mended v

-- the answer, with room for so many numbers and bytes: 1, 2, what the plain reader refuses, 4, 8
unfoldable pub mend_answer : ℕ → List ℕ → ℕ → ℕ → Mended
mend_answer h s list room = answer_by (gate_of h (max (length s) room) list) (counted_answer h s list room (tally 0 (listing h s)))
