-- `sorting::sift` meets its contract. Assumes nothing.
use Prim.Native.Nat.{◌-◌}
use Rattle.keys.specs.Key.{key_at, below_by}
use Rattle.keys.proofs.Keys.{key_strict}
use Rattle.sorting.proofs.Heaps.{Sifting}
use Rattle.sorting.proofs.sift.Given as goal

abbrev pub invariant-loop-i : goal.invariant-loop-i
invariant-loop-i l = Sifting (below_by (key_at l.text l.mark l.width)) (key_strict (key_at l.text l.mark l.width)) l.initial.list l.list l.from l.n l.i

abbrev pub decreases-loop-i : goal.decreases-loop-i
decreases-loop-i l = l.n - l.i
