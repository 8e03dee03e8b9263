-- `order::next_at` meets its contract. Assumes nothing.
use native.Mathlib.Omega.{arith}
use mathlib.Core.Path.{sym, ◌∙◌, ap}
use mathlib.Core.List.{[]}
use Rattle.order.specs.Order.{next}
use Rattle.order.proofs.Laws.{next-byte, next_past}
use Rattle.order.proofs.next_at.Goals as goal

pub overflow_cast-result : goal.overflow_cast-result
overflow_cast-result c = omega (arith, c.type_inv.s c.args.at)

pub overflow_add-result : goal.overflow_add-result
overflow_add-result c = omega (arith, c.type_inv.s c.args.at)

pub returns-then-at-s : goal.returns-then-at-s
returns-then-at-s c =
    let args = c.args in
    sym (next-byte args.s.now args.at args.tree c.if-at-s.true)

pub returns-then-tree : goal.returns-then-tree
unfolding next
returns-then-tree c =
    let args = c.args in
    sym (next_past args.s.now args.at args.tree c.if-at-s.false ∙ ap (next []) c.if-tree.true)

pub returns : goal.returns
unfolding next
returns c =
    let args = c.args in
    sym (next_past args.s.now args.at args.tree c.if-at-s.false ∙ ap (next []) c.if-tree.false)
