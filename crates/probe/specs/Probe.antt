-- The search as a value that is stepped: its start, one step, its answer. `proofs/Going.antt` joins it to the halving. Assumes nothing.
use Rattle.std.specs.Prelude.{ℕ, ◌+◌, max, Bool, false, ◌&&◌, List, ltb, Err, Ok, Result, ⊤}
use Rattle.ground.specs.Basics.{pick}
use Rattle.ground.specs.Verdict.{verdict, fine, gate_of, most_records}
use Rattle.ground.specs.declared.Verdict.{Verdict}
use Rattle.entry.specs.declared.EntryRecord.{EntryRecord}
use Rattle.lookup.specs.declared.Looked.{Looked}
use Rattle.probe.specs.declared.Query.{Query}
use Rattle.probe.specs.declared.Probe.{Probe}
use Rattle.lookup.specs.Halving.{Met, bad, met, absent, mid}
use Rattle.lookup.specs.Lookup.{compare_entry}
use Rattle.std.specs.declared.cmp.Ordering.TheVariants.{Equal, Greater, Less}

-- a search between low and high, which has ended where nothing is left there
unfoldable pub aimed_of : ℕ → ℕ → ℕ → Probe
aimed_of low high c = record { on = ltb low high; at = mid low high; low = low; high = high; looked = absent c }

-- a search that has ended
unfoldable pub stopped_of : Verdict → ℕ → ℕ → Probe
stopped_of v i c = record { on = false; at = 0; low = 0; high = 0; looked = record { verdict = v; index = i; compared = c } }

-- among n records, in an object and for a name of these lengths
unfoldable pub start_of : ℕ → ℕ → ℕ → Query → Probe
start_of object name n q = begin (gate_of q.h (max object name) n)
  where
    begin : Result ⊤ Verdict → Probe
    begin (Ok tt) = aimed_of 0 n 0
    begin (Err v) = stopped_of v 0 0

-- the search after record `at` was met
abbrev pub moved_of : Probe → Met → Probe
moved_of p bad = stopped_of (verdict 10 p.at) 0 0
moved_of p (met Less) = aimed_of (p.at + 1) p.high (p.looked.compared + 1)
moved_of p (met Equal) = stopped_of fine p.at (p.looked.compared + 1)
moved_of p (met Greater) = aimed_of p.low p.at (p.looked.compared + 1)

-- there is a record to compare, and room in the count
unfoldable pub ready : Probe → Bool
ready p = ltb p.at p.high && ltb p.looked.compared most_records

-- one record compared
unfoldable pub probe_step : List ℕ → List ℕ → Query → Probe → EntryRecord → Probe
probe_step object name q p e = pick (ready p) (moved_of p (compare_entry q.h object name q.folder e)) p

-- the answer of a search that has ended
unfoldable pub answer_of : Probe → Looked
answer_of p = p.looked
