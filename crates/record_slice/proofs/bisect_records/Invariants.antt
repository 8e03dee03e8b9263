-- Before each turn of `record_slice::bisect_records` the search at p is the lookup in these records, and the records to choose from become fewer.
-- Assumes nothing.
use Prim.Native.Nat.{◌-◌}
use Rattle.probe.proofs.Going.{Going}
use Rattle.record_slice.proofs.bisect_records.Given as goal

abbrev pub invariant-loop-p : goal.invariant-loop-p
invariant-loop-p l = Going l.object l.name l.q l.records l.p

abbrev pub decreases-loop-p : goal.decreases-loop-p
decreases-loop-p l = l.p.high - l.p.low
