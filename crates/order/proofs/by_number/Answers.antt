-- `order::by_number` meets its contract. Assumes nothing.
use mathlib.Core.Path.{sym}
use Rattle.order.proofs.Laws.{by_lt, by-eq, by_gt}
use native.Mathlib.Omega.{arith}
use Rattle.order.proofs.by_number.Goals as goal

pub returns-then-x-y : goal.returns-then-x-y
returns-then-x-y c = sym (by_lt c.if-x-y.true)

pub returns-then-y-x : goal.returns-then-y-x
returns-then-y-x c = sym (by_gt c.if-y-x.true)

pub returns : goal.returns
returns c = sym (by-eq (omega arith))
