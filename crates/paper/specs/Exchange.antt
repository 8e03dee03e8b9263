-- Trees as text, over every outcome that the contracts of `export_tree` and `import_tree` allow, and over those of the strict reader (docs/FORMAT.md, "Text").
-- `proofs/Exchange.antt` proves it. Assumes nothing.
use Rattle.std.specs.Prelude.{ℕ, ◌≤◌, ◌≡◌, List, ◌++◌, length, take, drop}
use Rattle.ground.specs.Verdict.{counted, most_bytes, most_records}
use Rattle.ground.specs.declared.Answer.{Answer}
use Rattle.entry.specs.Record.{many}
use Rattle.entry.specs.Entry.{Entry, as_written}
use Rattle.one_listing.specs.Sound.{Ascending, SoundListing}
use Rattle.one_listing.specs.Demand.{SameSet}
use Rattle.sorting.specs.Sort.{Perm}
use Rattle.hex_of_id.specs.Demand.{Bytes}
use Rattle.tree_text.specs.Text.{as_text}
use Rattle.importing.specs.Importing as by
use Rattle.importing.specs.Back.{SaysListing}
use Rattle.call.specs.Call.{Run}
use Rattle.demands.specs.Demand3 as strict
use Rattle.paper.specs.Calls.{export_tree, import_tree}

-- runs of the two calls: one is handed an object and writes a text, the other is handed a text and writes an object
abbrev pub Export : Type 0
Export = Run export_tree.call

abbrev pub Import : Type 0
Import = Run import_tree.call

-- what an export is handed: the object, the length of ids, the rule set, and the output as it was lent
abbrev pub object : Export → List ℕ
object e = e.given.args.0.now

abbrev pub export_id : Export → ℕ
export_id e = e.given.args.1.0

abbrev pub export_set : Export → ℕ
export_set e = e.given.args.1.1.0

abbrev pub export_room : Export → List ℕ
export_room e = e.given.args.1.1.1.0.now

-- whether it is done, and the text that it wrote: as many bytes at the front of the output as it counts
abbrev pub Exported : Export → Type 0
Exported e = e.came.answer.verdict.number ≡ 0

abbrev pub written : Export → List ℕ
written e = take e.came.answer.count e.came.last.1.1.1.0.now

-- what an import is handed: the text, the length of ids, the rule set, and the output as it was lent
abbrev pub text : Import → List ℕ
text c = c.given.args.0.now

abbrev pub id_length : Import → ℕ
id_length c = c.given.args.1.0

abbrev pub rule_set : Import → ℕ
rule_set c = c.given.args.1.1.0

abbrev pub room : Import → List ℕ
room c = c.given.args.1.1.1.0.now

-- whether it is done, and the object that it wrote
abbrev pub Imported : Import → Type 0
Imported c = c.came.answer.verdict.number ≡ 0

abbrev pub made : Import → List ℕ
made c = take c.came.answer.count c.came.last.1.1.1.0.now

-- the entries that the records of the text say, as they come, and in Git's order
abbrev pub said : Import → List Entry
said c = by.given (rule_set c) (id_length c) (text c)

abbrev pub listing : Import → List Entry
listing c = by.imported_listing (rule_set c) (id_length c) (text c)

-- two calls are handed one length of ids and one rule set
abbrev pub Alike : Export → Import → Type 0
Alike e c = (export_id e ≡ id_length c) × (export_set e ≡ rule_set c)

-- a call wrote these bytes and no more: it counts them, they stand at the front of its output, and behind them it is as it was lent
pub record Wrote (answer : Answer) (lent after bytes : List ℕ) : Type 0 where
  pub counts : answer ≡ counted (length bytes)
  pub leaves : after ≡ bytes ++ drop (length bytes) lent

pub record Exchanges : Type 0 where
  -- an export that is done: object and text say one sound listing, and no more is written
  pub export_says : (e : Export) → Exported e → SaysListing (export_set e) (export_id e) (object e) (written e)
  pub export_writes : (e : Export) → Exported e → Wrote e.came.answer (export_room e) e.came.last.1.1.1.0.now (written e)
  -- an import that is done: the object is a sound listing as written, its entries are those that the records say, each as often, and no more is written
  pub import_says : (c : Import) → Imported c
      → SoundListing (rule_set c) (id_length c) (listing c) × (made c ≡ as_written (listing c)) × Perm (listing c) (said c)
  pub import_writes : (c : Import) → Imported c → Wrote c.came.answer (room c) c.came.last.1.1.1.0.now (made c)
  -- what was imported the strict reader accepts under the same rule set, with just these entries: of every run of it with room for them
  pub accepted : (c : Import) → Imported c → (d : strict.Strict) → strict.object d ≡ made c → strict.id_length d ≡ id_length c → strict.rule_set d ≡ rule_set c
      → length (listing c) ≤ many (length (strict.lent d)) → many (length (strict.lent d)) ≤ most_records → strict.Returns d (listing c)
  -- export and then import give the same object: every import of the text, into room for the object, is done. That the object's numbers are below 256 is
  -- asked for, since a contract says nothing of it
  pub same_object : (e : Export) → Exported e → Bytes (object e) → (c : Import) → Alike e c → text c ≡ written e
      → length (object e) ≤ length (room c) → length (room c) ≤ most_bytes → Imported c × (made c ≡ object e)
  -- import and then export give the same records in Git's order: every export of the object, into room for them, is done
  pub same_records : (c : Import) → Imported c → (e : Export) → Alike e c → object e ≡ made c
      → length (as_text (listing c)) ≤ length (export_room e) → length (export_room e) ≤ most_bytes → Exported e × (written e ≡ as_text (listing c))
  -- and where they stood in Git's order, the same text
  pub same_text : (c : Import) → Imported c → Ascending (said c) → text c ≡ as_text (listing c)
  -- two texts with the same set of records are imported to the same bytes
  pub same_set : (c d : Import) → Imported c → Imported d → id_length c ≡ id_length d → rule_set c ≡ rule_set d → SameSet (said c) (said d) → made c ≡ made d
