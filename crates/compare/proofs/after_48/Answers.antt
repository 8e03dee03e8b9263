-- `compare::after_48` meets its contract. Assumes nothing.
use Rattle.compare.proofs.Laws.{told_same, told_below, told_above}
use Rattle.compare.proofs.after_48.Goals as goal

pub after_64-requires : goal.after_64-requires
after_64-requires c =
    let args = c.args in
    let pre = c.requires in
    (pre.0, told_same args.a.now args.b.now 64 c.order_16.ensures c.in-Equal.is, pre.2)

pub returns-in-Less : goal.returns-in-Less
returns-in-Less c =
    let args = c.args in
    told_below args.a.now args.b.now _ c.order_16.ensures _ c.in-Less.is

pub returns-in-Greater : goal.returns-in-Greater
returns-in-Greater c =
    let args = c.args in
    told_above args.a.now args.b.now _ c.order_16.ensures _ c.in-Greater.is
