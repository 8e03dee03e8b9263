-- `border_lookup::name_order` meets its contract. Assumes nothing.
use mathlib.Core.Path.{ap, ◌∙◌}
use mir.Syntax.{w8}
use mir.Val.{to_z, of_z}
use Rattle.order.specs.Order.{order_number}
use Rattle.border_lookup.proofs.Laws.{order_fits}
use Rattle.border_lookup.proofs.name_order.Goals as goal

pub returns : goal.returns
returns c = ap (λ z. to_z w8 (of_z w8 z)) (c.order_number.ensures ∙ ap order_number c.name_order.ensures) ∙ order_fits _
