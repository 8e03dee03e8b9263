-- `neighbours::neighbours` meets its contract. Assumes nothing.
use Prim.Native.Nat.{◌-◌, ◌≤◌}
use mathlib.Core.Path.{◌≡◌}
use lib.ListN.{take, drop}
use Rattle.sorting.specs.Repeats.{touches}
use Rattle.neighbours.specs.Sorted.{same_short}
use Rattle.neighbours.proofs.neighbours.Given as goal

abbrev pub invariant-loop-i : goal.invariant-loop-i
invariant-loop-i l = (1 ≤ l.i) × (touches (same_short l.s l.h) (take l.n l.list) ≡ touches (same_short l.s l.h) (drop (l.i - 1) (take l.most l.list)))
