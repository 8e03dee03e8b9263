-- `names::name_number` meets its contract. Assumes nothing.
use mathlib.Core.Path.{sym, ◌∙◌}
use Rattle.names.proofs.Laws.{number-slash, number-slashless}
use Rattle.names.proofs.name_number.Goals as goal

pub returns-then-is_free : goal.returns-then-is_free
returns-then-is_free c =
    let args = c.args in
    let is_free = c.is_free in
    let if1 = c.if-is_free in
    c.reserved_number.ensures ∙ sym (number-slashless args.name.now (sym is_free.ensures ∙ if1.true))

pub returns : goal.returns
returns c = sym (number-slash c.args.name.now (sym c.is_free.ensures ∙ c.if-is_free.false))
