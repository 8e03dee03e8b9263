-- `text_form::within` meets its contract. Assumes nothing.
use mathlib.Core.Path.{sym, ◌∙◌}
use Rattle.text_form.proofs.Laws.{within_first, within-second}
use Rattle.text_form.proofs.within.Goals as goal

pub returns-then-between : goal.returns-then-between
returns-then-between c = sym (within_first _ _ _ _ _ (sym c.between.ensures ∙ c.if-between.true))

pub returns : goal.returns
returns c = c.between-2.ensures ∙ sym (within-second _ _ _ _ _ (sym c.between.ensures ∙ c.if-between.false))
