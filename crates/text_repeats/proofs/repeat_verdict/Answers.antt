-- `text_repeats::repeat_verdict` meets its contract. Assumes nothing.
use mathlib.Core.Path.{sym}
use Rattle.text_repeats.proofs.Laws.{told_order, told-name, told_none}
use Rattle.text_repeats.proofs.repeat_verdict.Goals as goal

pub returns-then-order-lt-NONE : goal.returns-then-order-lt-NONE
returns-then-order-lt-NONE c = sym (told_order c.args.order c.args.name c.if-order-lt-NONE.true)

pub returns-then-name-lt-NONE : goal.returns-then-name-lt-NONE
returns-then-name-lt-NONE c = sym (told-name c.args.order c.args.name c.if-order-lt-NONE.false c.if-name-lt-NONE.true)

pub returns : goal.returns
returns c = sym (told_none c.args.order c.args.name c.if-order-lt-NONE.false c.if-name-lt-NONE.false)
