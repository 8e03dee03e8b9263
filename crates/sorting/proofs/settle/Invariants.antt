-- `sorting::settle` meets its contract. Assumes nothing.
use Prim.Native.Nat.{◌≤◌}
use lib.ListN.{length}
use Rattle.keys.specs.Key.{key_at, below_by}
use Rattle.keys.proofs.Keys.{key_strict}
use Rattle.sorting.proofs.Heaps.{Settling}
use Rattle.sorting.proofs.settle.Given as goal

abbrev pub invariant-loop-m : goal.invariant-loop-m
invariant-loop-m l = Settling (below_by (key_at l.text l.mark l.width)) (key_strict (key_at l.text l.mark l.width)) l.initial.list l.list l.m × (l.m ≤ length l.initial.list)
