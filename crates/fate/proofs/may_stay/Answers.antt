use mathlib.Core.Path.{sym, ◌∙◌}
use Rattle.fate.proofs.Laws.{may_not, may_if}
use Rattle.fate.proofs.may_stay.Goals as goal

pub returns-then-name_number-ne-DONE : goal.returns-then-name_number-ne-DONE
returns-then-name_number-ne-DONE c = may_not _ _ (λ e. c.if-name_number-ne-DONE.true (c.name_number.ensures ∙ e))

pub returns : goal.returns
returns c = c.stays_mode.ensures ∙ may_if _ _ (sym c.name_number.ensures ∙ c.if-name_number-ne-DONE.false)
