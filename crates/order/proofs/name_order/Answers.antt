-- `order::name_order` meets its contract. Assumes nothing.
use mathlib.Core.Path.{sym, ◌∙◌}
use Rattle.order.proofs.Laws.{decided_at, byte-below, byte_above}
use Rattle.order.proofs.name_order.Goals as goal

pub returns-then-a-i : goal.returns-then-a-i
returns-then-a-i c =
    let args = c.args in
    c.by_next.ensures ∙ sym (decided_at args.a.now args.atree args.b.now args.btree _ c.common_start-i.ensures)

pub returns-then-a-i-2 : goal.returns-then-a-i-2
returns-then-a-i-2 c =
    let args = c.args in
    sym (byte-below args.a.now args.atree args.b.now args.btree _ c.common_start-i.ensures c.if-a-i.false c.if-b-i.false c.if-a-i-2.true)

pub returns-else-a-i-2 : goal.returns-else-a-i-2
returns-else-a-i-2 c =
    let args = c.args in
    sym (byte_above args.a.now args.atree args.b.now args.btree _ c.common_start-i.ensures c.if-a-i.false c.if-b-i.false c.if-a-i-2.false)
