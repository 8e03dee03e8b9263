-- `scan::common_last` meets its contract. Assumes nothing.
use Prim.Native.Nat.{◌+◌}
use mathlib.Core.Path.{◌≡◌}
use lib.ListN.{drop}
use Rattle.ground.specs.Scan.{common_start}
use Rattle.scan.proofs.common_last.Given as goal

abbrev pub invariant-loop-i : goal.invariant-loop-i
invariant-loop-i l = l.from + common_start (drop l.from l.a) (drop l.from l.b) ≡ l.i + common_start (drop l.i l.a) (drop l.i l.b)
