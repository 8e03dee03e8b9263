-- `item::put_item` meets its contract. Assumes nothing.
use Rattle.item.proofs.Laws.{numbers-none, numbers-stored}
use native.Mathlib.Omega.{arith}
use Rattle.item.proofs.put_item.Goals as goal

pub returns-then-items-n : goal.returns-then-items-n
returns-then-items-n c = numbers-none _ _ _ _ _ c.if-items-n.true

pub returns : goal.returns
returns c =
    let a = c.args in
    numbers-stored a.items.now a.n _ _ a.c (omega arith)
