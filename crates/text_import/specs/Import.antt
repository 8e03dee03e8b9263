-- Importing: a text is read record by record, its entries are put in Git's order and written (docs/FORMAT.md, "Text"). Assumes nothing.
use Rattle.std.specs.Prelude.{ℕ, zero, suc, ◌+◌, max, Bool, true, false, ◌||◌, List, [], ◌∷◌, eqb, length, drop}
use Rattle.ground.specs.Basics.{pick}
use Rattle.ground.specs.Scan.{same_bytes}
use Rattle.ground.specs.Verdict.{verdict, fine, counted, refused, most_records, stored}
use Rattle.ground.specs.declared.Verdict.{Verdict}
use Rattle.ground.specs.declared.Answer.{Answer}
use Rattle.output.specs.Output.{gated, fitted}
use Rattle.mode.specs.Mode.{is_tree}
use Rattle.order.specs.Order.{name_order}
use Rattle.entry.specs.Entry.{Entry, as_written}
use Rattle.rules.specs.Rules.{stands_before}
use Rattle.rules.specs.Gate.{rule_gate}
use Rattle.sorting.specs.Sort.{sort_by}
use Rattle.text_record.specs.Record.{text_number, entry_in, size_in}
use Rattle.std.specs.declared.cmp.Ordering.{Ordering}
use Rattle.std.specs.declared.cmp.Ordering.TheVariants.{Equal, Greater, Less}

-- the records in turn, each with the position of its first byte and its entry; then the end of the text, or the refusal that reading met
pub data Texts : Type 0 where
  done : Texts
  stop : Verdict → Texts
  one : ℕ → Entry → Texts → Texts

-- the bytes b, which stand at a place of the text, read record by record, where at most so many may come: 2 where more bytes remain
unfoldable pub read_from : ℕ → ℕ → ℕ → ℕ → List ℕ → Texts
read_from k h zero at [] = done
read_from k h zero at (x ∷ xs) = stop (verdict 2 0)
read_from k h (suc left) at [] = done
read_from k h (suc left) at (x ∷ xs) =
    pick (eqb (text_number k h (x ∷ xs)) 0)
    (one at (entry_in k h (x ∷ xs)) (read_from k h left (at + size_in h (x ∷ xs)) (drop (size_in h (x ∷ xs)) (x ∷ xs))))
    (stop (verdict (text_number k h (x ∷ xs)) at))

-- a whole text
abbrev pub texts : ℕ → ℕ → List ℕ → Texts
texts k h s = read_from k h most_records 0 s

-- the entries that were read, and how reading ended
unfoldable pub entries_in : Texts → List Entry
entries_in done = []
entries_in (stop v) = []
entries_in (one at e l) = e ∷ entries_in l

unfoldable pub ending : Texts → Verdict
ending done = fine
ending (stop v) = v
ending (one at e l) = ending l

-- ---- after all records

-- two entries compare 0 in Git's order
abbrev pub is_same : Ordering → Bool
is_same Less = false
is_same Equal = true
is_same Greater = false

unfoldable pub compare_same : Entry → Entry → Bool
compare_same d e = is_same (name_order d.name (is_tree d.mode) e.name (is_tree e.mode))

-- they have one name
unfoldable pub name_same : Entry → Entry → Bool
name_same d e = same_bytes d.name e.name

-- some entry before is so
unfoldable pub any_before : (Entry → Entry → Bool) → List Entry → Entry → Bool
any_before same [] e = false
any_before same (d ∷ before) e = same d e || any_before same before e

-- the number at the first record that repeats an earlier one, in the order of the text
unfoldable pub repeated : ℕ → (Entry → Entry → Bool) → List Entry → Texts → Verdict
repeated n same before done = fine
repeated n same before (stop v) = fine
repeated n same before (one at e l) = pick (any_before same before e) (verdict n at) (repeated n same (e ∷ before) l)

-- the first verdict that is not done
abbrev pub or_then : Verdict → Verdict → Verdict
or_then v w = pick (eqb v.number 0) w v

-- what reading met; then 7 over all records, then 17
unfoldable pub import_verdict : Texts → Verdict
import_verdict t = or_then (ending t) (or_then (repeated 7 compare_same [] t) (repeated 17 name_same [] t))

-- the object: the entries in Git's order, as written
unfoldable pub imported : Texts → List ℕ
imported t = as_written (sort_by stands_before (entries_in t))

unfoldable pub counted_of : Texts → Answer
counted_of t = pick (eqb (import_verdict t).number 0) (counted (length (imported t))) (refused (import_verdict t))

-- importing into so much room by rule set k: 1, 19, 2, then the first record refused, 7, 17, then 8
unfoldable pub import_answer : ℕ → ℕ → List ℕ → ℕ → Answer
import_answer k h s room = gated (rule_gate k h (max (length s) room) 0) (fitted room (counted_of (texts k h s)))

-- the lent output afterwards
abbrev pub import_output : ℕ → ℕ → List ℕ → List ℕ → List ℕ
import_output k h s out = stored (import_answer k h s (length out)).verdict (imported (texts k h s)) out
