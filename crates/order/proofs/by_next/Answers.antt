-- `order::by_next` meets its contract. Assumes nothing.
use Rattle.order.proofs.Laws.{by_both}
use Rattle.order.proofs.by_next.Goals as goal

pub returns : goal.returns
returns c = by_both _ _ _ _ _ c.by_number.ensures c.next_at-x.ensures c.next_at-y.ensures
