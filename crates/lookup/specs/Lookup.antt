-- The lookup of a name in a list of records, and the sorted listings it is meant for (docs/FORMAT.md, "Lookup"). Assumes nothing.
use Rattle.std.specs.Prelude.{ℕ, ◌+◌, ◌<◌, max, ◌≡◌, Bool, true, false, List, eqb, length, get_or, Err, Ok, Result, ⊤}
use Rattle.ground.specs.Basics.{pick}
use Rattle.ground.specs.Verdict.{gate_of}
use Rattle.ground.specs.Scan.{free_of}
use Rattle.order.specs.Order.{name_order}
use Rattle.entry.specs.declared.EntryRecord.{EntryRecord}
use Rattle.entry.specs.Record.{no_record, well_formed, name_of, folder_of}
use Rattle.lookup.specs.declared.Looked.{Looked}
use Rattle.lookup.specs.Halving.{Met, bad, met, declined, search_from}
use Rattle.ground.specs.declared.Verdict.{Verdict}
use Rattle.std.specs.declared.cmp.Ordering.{Ordering}
use Rattle.std.specs.declared.cmp.Ordering.TheVariants.{Less}

-- a record against the name and the sort sought
unfoldable pub compare_entry : ℕ → List ℕ → List ℕ → Bool → EntryRecord → Met
compare_entry h object name folder e =
    pick (well_formed h (length object) e) (met (name_order (name_of object e) (folder_of e) name folder)) bad

-- record i of a list, or zeros past its end
abbrev pub nth : List EntryRecord → ℕ → EntryRecord
nth records i = get_or records i no_record

-- record i against the name and the sort sought
abbrev pub compare_at : ℕ → List ℕ → List EntryRecord → List ℕ → Bool → ℕ → Met
compare_at h object records name folder i = compare_entry h object name folder (nth records i)

-- what the search answers where the gate is open, and the gate's refusal where it is shut
abbrev pub behind : Result ⊤ Verdict → Looked → Looked
behind (Ok tt) r = r
behind (Err v) r = declined v

-- the whole: refusals 1 and 2, then the halving between 0 and the number of records
unfoldable pub lookup_in : ℕ → List ℕ → List EntryRecord → List ℕ → Bool → Looked
lookup_in h object records name folder =
    behind (gate_of h (max (length object) (length name)) (length records)) (search_from (compare_at h object records name folder) 0 (length records) 0)

-- what a second lookup answers after one that compared c records: those are counted too, but with a 10, which counts none
abbrev pub afterwards : ℕ → Looked → Looked
afterwards c r = pick (eqb r.verdict.number 10) r (record { verdict = r.verdict; index = r.index; compared = c + r.compared })

-- a name of any sort: as anything else than a folder, and where that is not there, as a folder
unfoldable pub any_in : ℕ → List ℕ → List EntryRecord → List ℕ → Looked
any_in h object records name =
    let first = lookup_in h object records name false in
    pick (eqb first.verdict.number 15) (afterwards first.compared (lookup_in h object records name true)) first

-- ---- what the theorems speak of

-- the lookup is within the bounds
abbrev pub Allowed : ℕ → List ℕ → List EntryRecord → List ℕ → Type 0
Allowed h object records name = gate_of h (max (length object) (length name)) (length records) ≡ Ok tt

-- how record i stands to record j
abbrev pub standing : List ℕ → List EntryRecord → ℕ → ℕ → Ordering
standing object records i j =
    name_order (name_of object (nth records i)) (folder_of (nth records i)) (name_of object (nth records j)) (folder_of (nth records j))

-- a sorted listing: the records are well formed, each is after the one before it, and no name has a slash
pub record Sorted (h : ℕ) (object : List ℕ) (records : List EntryRecord) : Type 0 where
  pub good : (i : ℕ) → i < length records → well_formed h (length object) (nth records i) ≡ true
  pub ascends : (i : ℕ) → i + 1 < length records → standing object records i (i + 1) ≡ Less
  pub slashless : (i : ℕ) → i < length records → free_of 47 (name_of object (nth records i)) ≡ true

-- record i is there, and has the name and the sort
pub record Stands (object : List ℕ) (records : List EntryRecord) (name : List ℕ) (folder : Bool) (i : ℕ) : Type 0 where
  pub inside : i < length records
  pub named : name_of object (nth records i) ≡ name
  pub sort : folder_of (nth records i) ≡ folder
