-- How often an object has to be rewritten, said of the two calls that do it: every outcome that the contracts of `read_tree` and `write_tree`
-- allow (docs/FORMAT.md, "Rewriting"). `proofs/Rewriting.antt` proves it. Assumes nothing.
use Rattle.std.specs.Prelude.{ℕ, suc, ◌*◌, ◌≤◌, ◌≡◌, List, ◌↔◌, length, take}
use Rattle.ground.specs.Verdict.{counted, most_bytes, most_records}
use Rattle.entry.specs.Record.{width, many, records_of}
use Rattle.entry.specs.declared.EntryRecord.{EntryRecord}
use Rattle.tree_round.specs.Demand.{SomeModes}
use Rattle.rewriting.specs.Demand.{rewrite, NoneBetween, TextsAsWritten}
use Rattle.call.specs.Call.{Input, Outcome, Meets}
use Rattle.tree_calls.specs.Calls.{read_tree, write_tree}

-- ---- one call of each

-- a call of the plain reader, with an outcome that its contract allows
pub record PlainReading : Type 0 where
  pub given : Input read_tree.call
  pub came : Outcome read_tree.call given
  pub meets : Meets read_tree.call given came

-- its object, its id length, how many records the list lent to it holds, and the flat numbers of the first n records at the end
abbrev pub object : PlainReading → List ℕ
object r = r.given.args.0.now

abbrev pub id_bytes : PlainReading → ℕ
id_bytes r = r.given.args.1.0

abbrev pub record_room : PlainReading → ℕ
record_room r = many (length r.given.args.1.1.0.now)

abbrev pub numbers : PlainReading → ℕ → List ℕ
numbers r n = take (n * width) r.came.last.1.1.0.now

-- it accepts its object, with n entries
abbrev pub Accepted : PlainReading → ℕ → Type 0
Accepted r n = r.came.answer ≡ counted n

-- a call of the writer, with an outcome that its contract allows
pub record TreeWriting : Type 0 where
  pub given : Input write_tree.call
  pub came : Outcome write_tree.call given
  pub meets : Meets write_tree.call given came

-- the room lent to it, and the first m bytes there at the end
abbrev pub byte_room : TreeWriting → ℕ
byte_room w = length w.given.args.1.1.1.0.now

abbrev pub first_bytes : TreeWriting → ℕ → List ℕ
first_bytes w m = take m w.came.last.1.1.1.0.now

-- it is handed an object that was read and the first n records that were returned
pub record HandedOn (r : PlainReading) (n : ℕ) (w : TreeWriting) : Type 0 where
  pub bytes : w.given.args.0.now ≡ object r
  pub id : w.given.args.1.0 ≡ id_bytes r
  pub records : w.given.args.1.1.0.now ≡ numbers r n

-- ---- one rewriting after the other

-- An object is read and the records that are returned are written; both calls are done, with so many entries and so many bytes.
pub record Rewriting : Type 0 where
  pub reading : PlainReading
  pub entries : ℕ
  pub accepted : Accepted reading entries
  pub writing : TreeWriting
  pub handed : HandedOn reading entries writing
  pub size : ℕ
  pub done : writing.came.answer ≡ counted size

-- the object, the records that it was read as, and the rewritten object
abbrev pub before : Rewriting → List ℕ
before p = object p.reading

abbrev pub records : Rewriting → List EntryRecord
records p = records_of (numbers p.reading p.entries)

abbrev pub after : Rewriting → List ℕ
after p = first_bytes p.writing p.size

-- the next one, with the same id length, reads what this one wrote
pub record Next (p q : Rewriting) : Type 0 where
  pub object : before q ≡ after p
  pub id : id_bytes q.reading ≡ id_bytes p.reading

-- a rewriting is the k-th one from a first
pub data Nth (p : Rewriting) : ℕ → Rewriting → Type 0 where
  first : Nth p 1 p
  then : {k : ℕ} {q r : Rewriting} → Nth p k q → Next q r → Nth p (suc k) r

-- ---- what is claimed

pub record SettlesInTwo : Type 0 where
  -- a rewriting is the rewriting of its object by the definitions, of just the size that is answered
  pub is_rewrite : (p : Rewriting) → (after p ≡ rewrite (id_bytes p.reading) (before p)) × (length (after p) ≡ p.size)
  -- what was accepted, mode 0 or not, is written into any buffer that has room for it
  pub is_written : (r : PlainReading) (n : ℕ) → Accepted r n → (w : TreeWriting) → HandedOn r n w → byte_room w ≤ most_bytes
      → length (rewrite (id_bytes r) (object r)) ≤ byte_room w → w.came.answer ≡ counted (length (rewrite (id_bytes r) (object r)))
  -- without an entry of mode 0: every rewritten object is accepted again wherever the list lent has room for its records, with as many entries,
  -- none of mode 0
  pub accepted_again : (p q : Rewriting) (k : ℕ) → SomeModes (records p) → Nth p k q → (r : PlainReading)
      → object r ≡ after q → id_bytes r ≡ id_bytes p.reading → p.entries ≤ record_room r
      → record_room r ≤ most_records → Accepted r p.entries × SomeModes (records_of (numbers r p.entries))
  -- the second rewrite equals every later one
  pub second_lasts : (p q r : Rewriting) (k : ℕ) → SomeModes (records p) → Nth p 2 q → 2 ≤ k → Nth p k r → after r ≡ after q
  -- the first rewrite is the second where no mode of the object lies from 49153 to 53247, and only there
  pub first_lasts : (p q : Rewriting) → SomeModes (records p) → Nth p 2 q → (after p ≡ after q) ↔ NoneBetween (records p)
  -- the object is its own first rewrite where each mode text is its mode's own, and only there
  pub own_rewrite : (p : Rewriting) → SomeModes (records p) → (before p ≡ after p) ↔ TextsAsWritten (before p) (records p)
