-- Mending, over every outcome that the contract of `mend_tree` allows, and over those of the strict reader (docs/FORMAT.md, "Mending"). `proofs/Mended.antt`
-- proves it. Assumes nothing.
use Rattle.std.specs.Prelude.{ℕ, ◌≤◌, ◌≡◌, length, take}
use mathlib.Core.List.{List, [], ◌∷◌, Memᴰ}
use Rattle.ground.specs.Verdict.{most_records}
use Rattle.entry.specs.Record.{many, name_of, id_of}
use Rattle.entry.specs.Entry.{Entry}
use Rattle.entry.specs.declared.EntryRecord.{EntryRecord}
use Rattle.reading.specs.Listing.{listing, records_in}
use Rattle.mend.specs.Mend.{fates_of}
use Rattle.mending.specs.Mending.{mended_listing, AllKept}
use Rattle.call.specs.Call.{Run}
use Rattle.paper.specs.Calls.{mend_tree}
use Rattle.call.specs.Places.{Below, Over, at_entry}
use Rattle.demands.specs.Demand3 as strict

-- a run of the call, and what it is handed: the object, and the length of ids
abbrev pub Mend : Type 0
Mend = Run mend_tree.call

abbrev pub object : Mend → List ℕ
object c = c.given.args.0.now

abbrev pub id_length : Mend → ℕ
id_length c = c.given.args.1.0

-- the entries that are read in the object, in its order
abbrev pub entries : Mend → List EntryRecord
entries c = records_in (listing (id_length c) (object c))

-- what it comes to: whether it is done; the list, as many numbers as it says to have read entries; and the new object, as many bytes as it counts
abbrev pub IsDone : Mend → Type 0
IsDone c = c.came.answer.verdict.number ≡ 0

abbrev pub list : Mend → List ℕ
list c = take c.came.answer.entries c.came.last.1.1.0.now

abbrev pub new : Mend → List ℕ
new c = take c.came.answer.count c.came.last.1.1.1.0.now

-- the listing of the new object: the kept entries, each with its kind's own mode, in Git's order
abbrev pub new_listing : Mend → List Entry
new_listing c = mended_listing (id_length c) (object c)

-- a run of the strict reader by rule set 2, of an object with the same length of ids
pub record Reads (d : strict.Strict) (c : Mend) (s : List ℕ) : Type 0 where
  pub same_object : strict.object d ≡ s
  pub same_id : strict.id_length d ≡ id_length c
  pub rules : strict.rule_set d ≡ 2

pub record Mends : Type 0 where
  -- the list has one number for each entry of the object, in the object's order: what is done to it
  pub each_once : (c : Mend) → IsDone c → (list c ≡ fates_of (id_length c) (object c)) × (length (list c) ≡ length (entries c))
  -- the new object has the bytes that are counted, and no more than the object
  pub never_longer : (c : Mend) → IsDone c → (length (new c) ≡ c.came.answer.count) × (length (new c) ≤ length (object c))
  -- every run of the strict reader on the new object by rule set 2, with room for as many records as the object has entries, returns its listing
  pub accepted : (c : Mend) → IsDone c → (d : strict.Strict) → Reads d c (new c) → length (entries c) ≤ many (length (strict.lent d))
      → many (length (strict.lent d)) ≤ most_records → strict.Returns d (new_listing c)
  -- each entry of that listing has the name and the id of an entry of the object
  pub names_and_ids : (c : Mend) (e : Entry) → Memᴰ e (new_listing c)
      → (r : EntryRecord) × Memᴰ r (entries c) × (e.name ≡ name_of (object c) r) × (e.id ≡ id_of (id_length c) (object c) r)
  -- where a run of the strict reader by rule set 2 is done with the object, the new object is the same, byte for byte, and every entry is listed as kept
  pub unchanged : (c : Mend) → IsDone c → (d : strict.Strict) → Reads d c (object c) → d.came.answer.verdict.number ≡ 0
      → (new c ≡ object c) × AllKept (list c)
  -- a run on what a run wrote writes the same again, and lists every entry as kept
  pub twice_is_once : (c d : Mend) → IsDone c → IsDone d → object d ≡ new c → id_length d ≡ id_length c → (new d ≡ new c) × AllKept (list d)
  -- where a refusal points: 3 inside the object, 4 at more numbers than the lent list has, 8 at more bytes than the lent output has
  pub points : (c : Mend) → let v = c.came.answer.verdict in
      Below at_entry (length (object c)) v × Over (4 ∷ []) (length c.given.args.1.1.0.now) v
      × Over (8 ∷ []) (length c.given.args.1.1.1.0.now) v
