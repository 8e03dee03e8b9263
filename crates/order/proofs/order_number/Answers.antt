-- `order::order_number` meets its contract. Assumes nothing.
use Rattle.order.specs.Order.{order_number}
use mathlib.Core.Path.{sym, ap}
use Rattle.order.proofs.order_number.Goals as goal

pub returns-in-Less : goal.returns-in-Less
unfolding order_number
returns-in-Less c = sym (ap order_number c.in-Less.is)

pub returns-in-Equal : goal.returns-in-Equal
unfolding order_number
returns-in-Equal c = sym (ap order_number c.in-Equal.is)

pub returns-in-Greater : goal.returns-in-Greater
unfolding order_number
returns-in-Greater c = sym (ap order_number c.in-Greater.is)
