-- The third demand in one place: one listing, one object, and what is found in it. H is 20 or 32 (`h`) and the rule set 1 or 2 (`k`) throughout.
-- `proofs/Demand3.antt` proves it. Assumes nothing.
use Rattle.std.specs.Prelude.{ℕ, ◌*◌, ◌≤◌, ◌<◌, ◌≡◌, Bool, true, List, ◌++◌, ◌⊎◌, ◌↔◌, length, take, drop}
use Rattle.ground.specs.Scan.{free_of}
use Rattle.ground.specs.Verdict.{verdict, fine, counted, refused, most_bytes, most_records}
use Rattle.entry.specs.Record.{width, many, records_of}
use Rattle.entry.specs.Entry.{Entry, entries_of, as_written}
use Rattle.entry.specs.declared.EntryRecord.{EntryRecord}
use Rattle.rules.specs.Rules.{git_rules}
use Rattle.strict.specs.Strict.{strict_answer}
use Rattle.one_listing.specs.Sound.{SoundListing}
use Rattle.one_listing.specs.Demand.{Accepts, OneObject}
use Rattle.lookup.specs.declared.Looked.{Looked}
use Rattle.tree_round.specs.Demand.{Holds, Finds, Misses}
use Rattle.call.specs.Call.{Run}
use Rattle.call.specs.Walked.{EachOutcome}
use Rattle.tree_calls.specs.Calls.{read_tree, read_tree_strict, bisect_entry, bisect_records, write_tree}

-- there are two rule sets
abbrev pub OneSet : ℕ → Type 0
OneSet k = (k ≡ 1) ⊎ (k ≡ 2)

-- the bounds of a call with a rule set, an object and a lent list
pub record Within (k h : ℕ) (s lent : List ℕ) : Type 0 where
  pub rules : OneSet k
  pub id : (h ≡ 20) ⊎ (h ≡ 32)
  pub bytes : length s ≤ most_bytes
  pub records : many (length lent) ≤ most_records

-- what the first n records of a list name in lent bytes
abbrev pub named : ℕ → List ℕ → ℕ → List ℕ → List Entry
named h s n records = entries_of h s (take n (records_of records))

-- ---- runs of the calls, and what they are handed and come to

abbrev pub Strict : Type 0
Strict = Run read_tree_strict.call

-- the object, the length of ids, the rule set, and the lent list as it was and as it is at the end
abbrev pub object : Strict → List ℕ
object c = c.given.args.0.now

abbrev pub id_length : Strict → ℕ
id_length c = c.given.args.1.0

abbrev pub rule_set : Strict → ℕ
rule_set c = c.given.args.1.1.0

abbrev pub lent : Strict → List ℕ
lent c = c.given.args.1.1.1.0.now

abbrev pub filled : Strict → List ℕ
filled c = c.came.last.1.1.1.0.now

-- a run returns a listing: it counts its entries, and the first records of the lent list name them
pub record Returns (c : Strict) (es : List Entry) : Type 0 where
  pub answer : c.came.answer ≡ counted (length es)
  pub listed : named (id_length c) (object c) (length es) (filled c) ≡ es

-- a further call is handed what this one was handed and returned: the object, the length of ids, and the records
pub record Handed (c : Strict) (es : List Entry) (bytes : List ℕ) (h : ℕ) (records : List EntryRecord) : Type 0 where
  pub same_object : bytes ≡ object c
  pub same_id : h ≡ id_length c
  pub same_records : records ≡ records_of (take (length es * width) (filled c))

-- a name that may be sought: within the bound, and without a slash
pub record Seekable (name : List ℕ) : Type 0 where
  pub short : length name ≤ most_bytes
  pub slashless : free_of 47 name ≡ true

-- the answer of a lookup in a listing: it is done, with an index, exactly where an entry of that name and sort is, and it is 15 exactly where there is none
pub record Answers (es : List Entry) (name : List ℕ) (folder : Bool) (x : Looked) : Type 0 where
  pub there : (n : ℕ) → ((x.verdict ≡ fine) × (x.index ≡ n)) ↔ Holds es name folder n
  pub gone : (x.verdict ≡ verdict 15 0) ↔ ((n : ℕ) → Holds es name folder n → ⊥)

-- so answers every lookup among returned records
pub record LooksUp (c : Strict) (es : List Entry) : Type 2 where
  -- every run of `bisect_entry`, over flat numbers
  pub flat : (d : Run bisect_entry.call) → let a = d.given.args in
      Handed c es a.0.now a.1.0 (records_of a.1.1.0.now) → Seekable a.1.1.1.0.now
      → Answers es a.1.1.1.0.now a.1.1.1.1.0 d.came.answer
  -- every outcome of `bisect_records`, over a lent slice of records
  pub structs : EachOutcome bisect_records (λ κs a x.
      Handed c es a.0.now a.1.0 a.1.1.0.now → Seekable a.1.1.1.0.now → Answers es a.1.1.1.0.now a.1.1.1.1.0 x)

-- every run of `write_tree` on returned records, with room for the object, counts its bytes and puts them at the front of the output
abbrev pub WritesBack : Strict → List Entry → Type 0
WritesBack c es =
    (d : Run write_tree.call) → let a = d.given.args in let n = length (object c) in let out = a.1.1.1.0.now in
    Handed c es a.0.now a.1.0 (records_of a.1.1.0.now) → n ≤ length out → length out ≤ most_bytes
    → (d.came.answer ≡ counted n) × (d.came.last.1.1.1.0.now ≡ object c ++ drop n out)

-- every run of `read_tree`, handed the same object, length of ids and list, has the same answer, and leaves the list the same
abbrev pub ReadsPlainly : Strict → Type 0
ReadsPlainly c =
    (d : Run read_tree.call) → let a = d.given.args in a.0.now ≡ object c → a.1.0 ≡ id_length c → a.1.1.0.now ≡ lent c
    → (d.came.answer ≡ c.came.answer) × (d.came.last.1.1.0.now ≡ filled c)

pub record ThirdDemand : Type 2 where
  -- what is said below of the strict reader is said of the call: every run of it, by one of the two rule sets, returns just the
  -- listing with which it accepts
  pub the_call : (c : Strict) (es : List Entry) → Returns c es ↔ (OneSet (rule_set c) × Accepts (git_rules (rule_set c)) (id_length c) (object c) (lent c) es)
  -- every run with number 0 returns a listing, by one of the two rule sets
  pub some_listing : (c : Strict) → c.came.answer.verdict.number ≡ 0 → (es : List Entry) × Returns c es × OneSet (rule_set c)
  -- the strict reader accepts bytes with a listing exactly when the listing is sound, the lent list has room for it, and the bytes are it, as written
  pub one_listing : (k h : ℕ) (s lent : List ℕ) (es : List Entry) → Within k h s lent
      → Accepts (git_rules k) h s lent es ↔ (SoundListing k h es × (length es ≤ many (length lent)) × (s ≡ as_written es))
  -- a sound listing as written, with too little room lent, is refused 4 with the records needed
  pub short_room : (k h : ℕ) (s lent : List ℕ) (es : List Entry) → Within k h s lent → SoundListing k h es → s ≡ as_written es
      → many (length lent) < length es → length es ≤ most_records → strict_answer k h s lent ≡ refused (verdict 4 (length es))
  -- two accepted objects hold the same set of entries exactly when their bytes are equal
  pub one_object : (k : ℕ) → OneObject (git_rules k)
  -- in an accepted object, bisection for a name without a slash finds an entry exactly where one of that name and sort is
  pub finds : (k : ℕ) → Finds (git_rules k)
  -- and it answers 15 exactly where there is none
  pub misses : (k : ℕ) → Misses (git_rules k)
  -- both are said of the calls: of every run of the two lookups, over flat numbers and over records, in what the strict reader returned
  pub the_lookup : (c : Strict) (es : List Entry) → Returns c es → LooksUp c es
  -- what the strict reader returned, written with room for it, is the object itself: of every run of the writer
  pub the_writer : (c : Strict) (es : List Entry) → Returns c es → WritesBack c es
  -- what the strict reader accepts the plain one accepts: of every run of it
  pub the_plain_reader : (c : Strict) (es : List Entry) → Returns c es → ReadsPlainly c
