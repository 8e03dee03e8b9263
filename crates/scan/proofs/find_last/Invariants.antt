-- `scan::find_last` meets its contract. Assumes nothing.
use mathlib.Core.Path.{◌≡◌}
use Rattle.ground.specs.Scan.{place_from}
use Rattle.scan.proofs.find_last.Given as goal

abbrev pub invariant-loop-i : goal.invariant-loop-i
invariant-loop-i l = place_from l.x l.s l.from ≡ place_from l.x l.s l.i
