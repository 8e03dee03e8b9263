-- `sorting::sort` meets its contract. Assumes nothing.
use Rattle.sorting.proofs.Sorted.{sort-done}
use mathlib.Core.Path.{sym, ◌∙◌}
use Rattle.sorting.proofs.sort.Goals as goal

pub returns-then-in_order : goal.returns-then-in_order
returns-then-in_order c = sym (sort-done _ _ (c.in_order.ensures c.if-in_order.true))

pub settle-requires : goal.settle-requires
settle-requires c =
    let heapify = c.heapify in
    rw heapify.ensures.moved.size heapify.ensures.heap

pub returns : goal.returns
returns c = c.settle.ensures ∙ c.heapify.ensures.moved.form
