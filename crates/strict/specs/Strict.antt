-- Strict reading: a listing, cut at the first entry that its rules do not permit (docs/FORMAT.md, "Strict reading"). Assumes nothing.
use Rattle.std.specs.Prelude.{ℕ, ◌-◌, List, [], ◌∷◌, length, eqb, leb, Err, Result}
use Rattle.ground.specs.Basics.{pick, part}
use Rattle.ground.specs.Verdict.{verdict, stored, most_bytes}
use Rattle.ground.specs.declared.Answer.{Answer}
use Rattle.entry.specs.Record.{many}
use Rattle.entry.specs.Entry.{Entry, entry_of}
use Rattle.entry.specs.declared.EntryRecord.{EntryRecord}
use Rattle.rules.specs.Rules.{Rules, judge, git_rules}
use Rattle.rules.specs.Gate.{rule_gate}
use Rattle.reading.specs.Listing.{Listing, done, stop, entry, listing, records_in, flats, tally}
use Rattle.reading.specs.Whole.{answer_of}
use Rattle.ground.specs.declared.Verdict.{Verdict}

-- the mode text of an entry at a place: all that stands before the space ahead of its name
unfoldable pub text_of : List ℕ → ℕ → EntryRecord → List ℕ
text_of s at e = part at (e.name_start - 1) s

-- a listing of the object s, cut at the first entry that is not permitted after those before it
unfoldable pub cut : Rules → ℕ → List ℕ → List Entry → Listing → Listing
cut R h s before done = done
cut R h s before (stop v) = stop v
cut R h s before (entry at e l) =
    pick (eqb (judge R before (text_of s at e) (entry_of h s e)) 0) (entry at e (cut R h s (entry_of h s e ∷ before) l))
    (stop (verdict (judge R before (text_of s at e) (entry_of h s e)) at))

-- the strict reading of a whole object
abbrev pub strictly : Rules → ℕ → List ℕ → Listing
strictly R h s = cut R h s [] (listing h s)

-- how many entries are counted by a rule set, or the refusal; 2 for an object over its bound
unfoldable pub strict_count : ℕ → ℕ → List ℕ → Result ℕ Verdict
strict_count k h s = pick (leb (length s) most_bytes) (tally 0 (strictly (git_rules k) h s)) (Err (verdict 2 0))

-- ---- by a rule set, into a lent list

-- the answer of reading an object strictly into a lent list
abbrev pub strict_answer : ℕ → ℕ → List ℕ → List ℕ → Answer
strict_answer k h s lent = answer_of (rule_gate k h (length s) (many (length lent))) (strictly (git_rules k) h s) (many (length lent))

-- the lent list afterwards
abbrev pub strict_records : ℕ → ℕ → List ℕ → List ℕ → List ℕ
strict_records k h s lent = stored (strict_answer k h s lent).verdict (flats (records_in (strictly (git_rules k) h s))) lent
