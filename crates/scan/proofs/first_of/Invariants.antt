-- `scan::first_of` meets its contract. Assumes nothing.
use Prim.Native.Nat.{◌+◌, ◌*◌}
use mathlib.Core.Path.{◌≡◌}
use Rattle.ground.specs.Scan.{place_from}
use Rattle.scan.proofs.first_of.Given as goal

abbrev pub invariant-loop-k : goal.invariant-loop-k
invariant-loop-k l = place_from l.x l.s l.from ≡ place_from l.x l.s (l.from + 8 * l.k)
