-- `scan::find_nul_or_slash` meets its contract. Assumes nothing.
use Prim.Native.Nat.{◌-◌, ◌≤◌}
use mathlib.Core.Path.{◌≡◌}
use lib.ListN.{length}
use Rattle.ground.specs.Scan.{place_from}
use Rattle.scan.proofs.find_nul_or_slash.Given as goal

abbrev pub invariant-loop-i : goal.invariant-loop-i
invariant-loop-i l =
    (l.i ≤ length l.s) × (place_from 0 l.s l.from ≡ place_from 0 l.s l.i) × (place_from 47 l.s l.from ≡ place_from 47 l.s l.i)

abbrev pub decreases-loop-i : goal.decreases-loop-i
decreases-loop-i l = length l.s - l.i
