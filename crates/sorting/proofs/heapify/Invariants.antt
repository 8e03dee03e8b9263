-- `sorting::heapify` meets its contract. Assumes nothing.
use mathlib.Core.Path.{◌≡◌}
use lib.ListN.{length}
use Rattle.keys.specs.Key.{key_at, below_by}
use Rattle.keys.proofs.Keys.{key_strict}
use Rattle.sorting.proofs.Heaps.{Heaping}
use Rattle.sorting.proofs.heapify.Given as goal

abbrev pub invariant-loop-k : goal.invariant-loop-k
invariant-loop-k l = Heaping (below_by (key_at l.text l.mark l.width)) (key_strict (key_at l.text l.mark l.width)) l.initial.list l.list l.k l.n × (l.n ≡ length l.initial.list)
