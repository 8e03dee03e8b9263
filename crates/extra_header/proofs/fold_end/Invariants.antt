-- `extra_header::fold_end` meets its contract. Assumes nothing.
use Prim.Native.Nat.{◌-◌}
use mathlib.Core.Path.{◌≡◌}
use lib.ListN.{length, drop}
use mathlib.Core.Bool.{false}
use Rattle.extra_header.specs.Extra.{fold_from, fold_end}
use Rattle.extra_header.proofs.fold_end.Given as goal

abbrev pub invariant-loop-at : goal.invariant-loop-at
invariant-loop-at l = fold_end l.s l.start ≡ fold_from false l.start l.at (drop l.at l.s)

abbrev pub decreases-loop-at : goal.decreases-loop-at
decreases-loop-at l = length l.s - l.at
