-- What an edit of an object answers, and the output afterwards (docs/FORMAT.md, "Edits"). Assumes nothing.
use Rattle.std.specs.Prelude.{ℕ, max, List, eqb, leb, length, Err, Ok, Result}
use Rattle.ground.specs.Basics.{pick}
use Rattle.ground.specs.Verdict.{verdict, counted, refused, most_records, stored}
use Rattle.ground.specs.declared.Answer.{Answer}
use Rattle.output.specs.Output.{gated, fitted}
use Rattle.entry.specs.Entry.{Entry, entries_of, as_written}
use Rattle.rules.specs.Rules.{Rules, or_else, git_rules}
use Rattle.rules.specs.Gate.{rule_gate}
use Rattle.reading.specs.Listing.{listing, records_in, tally}
use Rattle.strict.specs.Strict.{strictly}
use Rattle.one_listing.specs.Sound.{is_mode}
use Rattle.edit.specs.Table.{remove_from, put_in, is_held, table_of}
use Rattle.ground.specs.declared.Verdict.{Verdict}

-- the entries of an object
abbrev pub entries_in : ℕ → List ℕ → List Entry
entries_in h s = entries_of h s (records_in (listing h s))

-- what rules say of a new entry: 10 for an id not of h bytes, then 5 for its mode, then what they say of its name
unfoldable pub new_no : Rules → ℕ → Entry → ℕ
new_no R h new = pick (eqb (length new.id) h) (or_else (pick (is_mode R.modes new.mode) 0 5) (R.name_no new.name)) 10

-- the size of a listing, or 2 where it has one entry too many
unfoldable pub size_of : List Entry → Answer
size_of es = pick (leb (length es) most_records) (counted (length (as_written es))) (refused (verdict 2 0))

-- putting an entry in a listing, with so much room: the entry's refusal, 2, then 8
unfoldable pub putting : ℕ → ℕ → Entry → List Entry → Answer
putting room number new es = pick (eqb number 0) (fitted room (size_of (put_in new es))) (refused (verdict number 0))

-- removing a name: 15 where the listing's table has nothing under it, then 8
unfoldable pub removing : ℕ → List ℕ → List Entry → Answer
removing room name es = pick (is_held (table_of es name)) (fitted room (counted (length (as_written (remove_from name es))))) (refused (verdict 15 0))

-- an object that was counted strictly, and what is done with its entries
unfoldable pub on_counted : Result ℕ Verdict → Answer → Answer
on_counted (Err v) a = refused v
on_counted (Ok n) a = a

-- 1, 19, and 2 of the object, the name, the id and the output; the strict reader's; then the edit's own
unfoldable pub put_answer : ℕ → ℕ → List ℕ → Entry → ℕ → Answer
put_answer k h s new room =
    gated (rule_gate k h (max (max (length s) (length new.name)) (max (length new.id) room)) 0)
    (on_counted (tally 0 (strictly (git_rules k) h s)) (putting room (new_no (git_rules k) h new) new (entries_in h s)))

unfoldable pub remove_answer : ℕ → ℕ → List ℕ → List ℕ → ℕ → Answer
remove_answer k h s name room =
    gated (rule_gate k h (max (length s) (max (length name) room)) 0)
    (on_counted (tally 0 (strictly (git_rules k) h s)) (removing room name (entries_in h s)))

-- the output afterwards: the edited listing as written
abbrev pub put_output : ℕ → ℕ → List ℕ → Entry → List ℕ → List ℕ
put_output k h s new out = stored (put_answer k h s new (length out)).verdict (as_written (put_in new (entries_in h s))) out

abbrev pub remove_output : ℕ → ℕ → List ℕ → List ℕ → List ℕ → List ℕ
remove_output k h s name out = stored (remove_answer k h s name (length out)).verdict (as_written (remove_from name (entries_in h s))) out
