-- A whole object read into lent records: the answer, and the records afterwards (docs/FORMAT.md, "Reading"). Assumes nothing.
use Rattle.std.specs.Prelude.{ℕ, List, length, take, leb, Err, Ok, Result, ⊤}
use Rattle.std.proofs.lemmas.List.Edits.{sets}
use Rattle.ground.specs.Basics.{pick}
use Rattle.ground.specs.Verdict.{verdict, counted, refused, gate_of, stored}
use Rattle.ground.specs.declared.Answer.{Answer}
use Rattle.entry.specs.Record.{many}
use Rattle.reading.specs.Listing.{Listing, listing, tally, records_in, flats}
use Rattle.ground.specs.declared.Verdict.{Verdict}

-- 4 with the records needed where the lent list has room for fewer
abbrev pub in_room : ℕ → Result ℕ Verdict → Answer
in_room room (Err v) = refused v
in_room room (Ok n) = pick (leb n room) (counted n) (refused (verdict 4 n))

unfoldable pub answer_of : Result ⊤ Verdict → Listing → ℕ → Answer
answer_of (Err v) l room = refused v
answer_of (Ok tt) l room = in_room room (tally 0 l)

-- the answer of reading a listing of the object s into a lent list
abbrev pub read_answer : ℕ → List ℕ → Listing → List ℕ → Answer
read_answer h s l lent = answer_of (gate_of h (length s) (many (length lent))) l (many (length lent))

-- the lent list afterwards
abbrev pub read_records : ℕ → List ℕ → Listing → List ℕ → List ℕ
read_records h s l lent = stored (read_answer h s l lent).verdict (flats (records_in l)) lent

-- the lent list at the end of a reading that counted so many entries: the records of as many, where there is room for them
abbrev pub finished : ℕ → List ℕ → Result ℕ Verdict → List ℕ → List ℕ
finished h s (Err v) lent = lent
finished h s (Ok n) lent = pick (leb n (many (length lent))) (sets lent 0 (flats (take n (records_in (listing h s))))) lent
