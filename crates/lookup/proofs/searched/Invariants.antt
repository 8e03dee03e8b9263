-- `lookup::searched` meets its contract: before each turn the answer is the search between low and high, and there is room in the count. Assumes nothing.
use Prim.Native.Nat.{◌+◌, ◌-◌, ◌≤◌}
use mathlib.Core.Path.{◌≡◌}
use lib.ListN.{length}
use Rattle.ground.specs.Verdict.{most_records}
use Rattle.entry.specs.Record.{many, records_of}
use Rattle.lookup.specs.Halving.{search_from}
use Rattle.lookup.specs.Lookup.{compare_at, lookup_in}
use Rattle.lookup.proofs.searched.Given as goal

abbrev pub invariant-loop-low : goal.invariant-loop-low
invariant-loop-low l = (l.high ≤ many (length l.records)) × (l.compared + (l.high - l.low) ≤ most_records) ×
    (lookup_in l.h l.object (records_of l.records) l.name l.folder ≡ search_from (compare_at l.h l.object (records_of l.records) l.name l.folder) l.low l.high l.compared)

abbrev pub decreases-loop-low : goal.decreases-loop-low
decreases-loop-low l = l.high - l.low
