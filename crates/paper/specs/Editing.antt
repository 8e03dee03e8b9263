-- Edits in turn, over every outcome that the contracts of `put_in_tree` and `remove_from_tree` allow (docs/FORMAT.md, "Edits"). `proofs/Editing.antt` proves
-- it. Assumes nothing.
use Rattle.std.specs.Prelude.{ℕ, ◌≤◌, ◌≡◌, Bool, List, [], ◌∷◌, ◌↔◌, eqb, length, take}
use Rattle.ground.specs.Basics.{pick}
use Rattle.ground.specs.Verdict.{verdict, refused, most_bytes}
use Rattle.ground.specs.declared.Answer.{Answer}
use Rattle.entry.specs.Entry.{Entry}
use Rattle.edit.specs.Table.{remove_from, none, held, Table}
use Rattle.edit_walk.specs.Walk.{new_entry}
use Rattle.editing.specs.Demand.{Written, OneWriting, FromAccepted, AcceptedAgain, Change, puts, removes, name_of, table_changed}
use Rattle.call.specs.Call.{Run}
use Rattle.paper.specs.Calls.{put_in_tree, remove_from_tree}

-- a run of one of the two calls
pub data Edit : Type 0 where
  put : Run put_in_tree.call → Edit
  remove : Run remove_from_tree.call → Edit

-- what it is handed: the object, the length of ids, the rule set and the change
abbrev pub object : Edit → List ℕ
object (put c) = c.given.args.0.now
object (remove c) = c.given.args.0.now

abbrev pub id_length : Edit → ℕ
id_length (put c) = c.given.args.1.0
id_length (remove c) = c.given.args.1.0

abbrev pub rule_set : Edit → ℕ
rule_set (put c) = c.given.args.1.1.0
rule_set (remove c) = c.given.args.1.1.0

-- the entry that is put
abbrev pub new_of : Run put_in_tree.call → Entry
new_of c = new_entry c.given.args.1.1.1.0 c.given.args.1.1.1.1.0.now c.given.args.1.1.1.1.1.0.now

abbrev pub change : Edit → Change
change (put c) = puts (new_of c)
change (remove c) = removes c.given.args.1.1.1.0.now

-- what it comes to: the answer, and the output
abbrev pub answer : Edit → Answer
answer (put c) = c.came.answer
answer (remove c) = c.came.answer

abbrev pub output : Edit → List ℕ
output (put c) = c.came.last.1.1.1.1.1.1.0.now
output (remove c) = c.came.last.1.1.1.1.0.now

abbrev pub is_done : Edit → Bool
is_done e = eqb (answer e).verdict.number 0

-- the object that it leaves: the bytes that it counts, at the front of the output; where it is refused, the object as it was
abbrev pub left : Edit → List ℕ
left e = pick (is_done e) (take (answer e).count (output e)) (object e)

-- the table that it leaves
abbrev pub table_left : Edit → Table → Table
table_left e t = pick (is_done e) (table_changed (change e) t) t

-- edits in turn, of one rule set and one length of ids, each handed what the one before left, the first the object s
unfoldable pub InTurn : ℕ → ℕ → List ℕ → List Edit → Type 0
InTurn k h s [] = Unit {0}
InTurn k h s (e ∷ es) = (object e ≡ s) × (id_length e ≡ h) × (rule_set e ≡ k) × InTurn k h (left e) es

-- the object that is left at the end, and the table
unfoldable pub last_left : List ℕ → List Edit → List ℕ
last_left s [] = s
last_left s (e ∷ es) = last_left (left e) es

unfoldable pub last_table : Table → List Edit → Table
last_table t [] = t
last_table t (e ∷ es) = last_table (table_left e t) es

-- a removal of the name that was put, handed what the put left
pub record Follows (c : Run put_in_tree.call) (d : Run remove_from_tree.call) : Type 0 where
  pub same_object : object (remove d) ≡ left (put c)
  pub same_id : id_length (remove d) ≡ id_length (put c)
  pub same_rules : rule_set (remove d) ≡ rule_set (put c)
  pub same_name : name_of (change (remove d)) ≡ (new_of c).name

pub record Edits : Type 0 where
  -- a table is written in one way only
  pub one_writing : OneWriting
  -- what the strict reader accepts is a table as written, and a table as written is accepted by the same rule set
  pub from_accepted : FromAccepted
  pub accepted_again : AcceptedAgain
  -- any sequence of edits from a table as written leaves the table after those that were done, as written: the others leave both as they were
  pub in_turn : (k h : ℕ) (t : Table) (s : List ℕ) (es : List Edit) → Written k h t s → InTurn k h s es → Written k h (last_table t es) (last_left s es)
  -- an edit that is done carries all other entries over, in the same order
  pub carried_over : (e : Edit) (t : Table) (w : Written (rule_set e) (id_length e) t (object e)) → (answer e).verdict.number ≡ 0
      → (v : Written (rule_set e) (id_length e) (table_changed (change e) t) (left e)) × (remove_from (name_of (change e)) v.listing ≡ remove_from (name_of (change e)) w.listing)
  -- a removal within the bounds is 15 exactly where the table has nothing under the name
  pub missing : (c : Run remove_from_tree.call) (t : Table) → Written (rule_set (remove c)) (id_length (remove c)) t (object (remove c))
      → length c.given.args.1.1.1.0.now ≤ most_bytes → length c.given.args.1.1.1.1.0.now ≤ most_bytes
      → (c.came.answer ≡ refused (verdict 15 0)) ↔ (t c.given.args.1.1.1.0.now ≡ none)
  -- a put of what is there gives the object, byte for byte
  pub same_put : (c : Run put_in_tree.call) (t : Table) → Written (rule_set (put c)) (id_length (put c)) t (object (put c))
      → t (new_of c).name ≡ held (new_of c).mode (new_of c).id → c.came.answer.verdict.number ≡ 0 → left (put c) ≡ object (put c)
  -- a put of a new name, and the removal of that name from what it left, give the object back
  pub there_and_back : (c : Run put_in_tree.call) (d : Run remove_from_tree.call) (t : Table)
      → Written (rule_set (put c)) (id_length (put c)) t (object (put c)) → t (new_of c).name ≡ none → Follows c d
      → c.came.answer.verdict.number ≡ 0 → d.came.answer.verdict.number ≡ 0 → left (remove d) ≡ object (put c)
