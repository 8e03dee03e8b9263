-- `scan::lacks` meets its contract. Assumes nothing.
use mathlib.Core.Path.{◌≡◌}
use lib.ListN.{take}
use Rattle.ground.specs.Scan.{free_of}
use Rattle.scan.proofs.lacks.Given as goal

abbrev pub invariant-loop-b : goal.invariant-loop-b
invariant-loop-b l = l.free ≡ free_of l.x (take l.b-index l.s)
