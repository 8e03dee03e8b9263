-- `mend::choose` meets its contract. Assumes nothing.
use mathlib.Core.Path.{◌∙◌}
use borrow.Author.Tests.{le-ltb}
use Rattle.mend_kept.proofs.Walk.{chosen_in, chosen-out, chosen-first}
use Rattle.mend.proofs.choose.Goals as goal

pub returns-then-n-fates : goal.returns-then-n-fates
returns-then-n-fates c = chosen_in _ _ _ _ _ c.if-second.true c.if-n-fates.true

pub returns-else-n-fates : goal.returns-else-n-fates
returns-else-n-fates c = le-ltb _ _ c.if-n-fates.false ∙ chosen-out _ _ _ _ _ c.if-second.true c.if-n-fates.false

pub returns : goal.returns
returns c = c.may_stay.ensures ∙ chosen-first _ _ _ _ _ c.if-second.false
