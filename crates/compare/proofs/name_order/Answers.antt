use mathlib.Core.Path.{sym, ◌∙◌}
use Rattle.compare.proofs.Laws.{order_below, order_above, told_same, by_end}
use Rattle.compare.proofs.name_order.Goals as goal

pub returns-in-Less : goal.returns-in-Less
returns-in-Less c =
    let args = c.args in
    let by_first = c.by_first in
    let enum_told = c.in-Less in
    order_below args.a.now args.b.now _ args.atree args.btree by_first.ensures enum_told.is

pub returns-in-Equal : goal.returns-in-Equal
returns-in-Equal c =
    let args = c.args in
    let shorter = c.shorter-n in
    let by_first = c.by_first in
    let enum-told2 = c.in-Equal in
    let by_next = c.by_next in
    by_next.ensures ∙ sym (by_end args.a.now args.b.now _ args.atree args.btree shorter.ensures
    (told_same args.a.now args.b.now _ by_first.ensures enum-told2.is))

pub returns-in-Greater : goal.returns-in-Greater
returns-in-Greater c =
    let args = c.args in
    let by_first = c.by_first in
    let enum-told3 = c.in-Greater in
    order_above args.a.now args.b.now _ args.atree args.btree by_first.ensures enum-told3.is
