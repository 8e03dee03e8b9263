-- `sorting::heapify` meets its contract. Assumes nothing.
use mathlib.Core.Path.{refl}
use Rattle.keys.specs.Key.{key_at, below_by}
use Rattle.keys.proofs.Keys.{key_strict}
use Rattle.sorting.proofs.Heaps.{heap_start}
use Rattle.sorting.proofs.heapify.Goals as goal

pub loop-k-init : goal.loop-k-init
loop-k-init c =
    let args = c.args in
    let key = key_at args.text.now args.mark args.width in
    (heap_start (below_by key) (key_strict key) args.list.now _, refl)
