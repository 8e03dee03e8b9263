-- `keys::names` meets its contract. Assumes nothing.
use Prim.Native.Nat.{◌-◌}
use lib.ListN.{length, drop}
use Rattle.keys.specs.Key.{cut_to}
use Rattle.keys.proofs.Keys.{Walk}
use Rattle.keys.proofs.names.Given as goal

abbrev pub invariant-loop-width : goal.invariant-loop-width
invariant-loop-width l = Walk (cut_to l.width (drop l.a l.text)) (cut_to l.width (drop l.b l.text)) l.i

abbrev pub decreases-loop-width : goal.decreases-loop-width
decreases-loop-width l = length l.text - l.i
