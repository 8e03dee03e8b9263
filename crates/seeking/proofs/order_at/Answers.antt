-- `seeking::order_at` meets its contract. Assumes nothing.
use mathlib.Core.Path.{refl}
use Rattle.neighbours.proofs.Laws.{short-part}
use Rattle.seeking.proofs.Laws.{order_part, short-at}
use Rattle.seeking.proofs.order_at.Goals as goal

pub returns : goal.returns
returns c =
    let place_of = c.place_of in
    let shorter = c.shorter-a in
    let shorter2 = c.shorter in
    let name-order = c.name_order in
    order_part _ _ _ _ name-order.ensures (short-part _ _ _ _ _ _ (short-at _ _ _ _ shorter.ensures place_of.ensures) shorter2.ensures refl)
