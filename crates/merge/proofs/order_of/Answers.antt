-- `merge::order_of` meets its contract. Assumes nothing.
use Rattle.merge.proofs.Laws.{order_is}
use Rattle.merge.proofs.order_of.Goals as goal

pub slice_bounds-name_order-count : goal.slice_bounds-name_order-count
slice_bounds-name_order-count c = c.requires.name_start_bound.0

pub slice_bounds-name_order-start : goal.slice_bounds-name_order-start
slice_bounds-name_order-start c = c.requires.name_start_bound.0

pub slice_bounds-name_order-end : goal.slice_bounds-name_order-end
slice_bounds-name_order-end c = c.requires.name_start_bound.1

pub slice_bounds-name_order-count-2 : goal.slice_bounds-name_order-count-2
slice_bounds-name_order-count-2 c = c.requires.name_start_bound_2.0

pub slice_bounds-name_order-start-2 : goal.slice_bounds-name_order-start-2
slice_bounds-name_order-start-2 c = c.requires.name_start_bound_2.0

pub slice_bounds-name_order-end-2 : goal.slice_bounds-name_order-end-2
slice_bounds-name_order-end-2 c = c.requires.name_start_bound_2.1

pub returns : goal.returns
returns c = order_is _ _ _ _ _ c.name_order.ensures c.is_folder.ensures c.is_folder-2.ensures
