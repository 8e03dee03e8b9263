-- `entry::stepped` meets its contract. Assumes nothing.
use mathlib.Core.Path.{sym, ap, ◌∙◌}
use Rattle.entry.specs.Decode.{step_over}
use Rattle.entry.proofs.stepped.Goals as goal

pub returns-in-Ok : goal.returns-in-Ok
unfolding step_over
returns-in-Ok c = ap (step_over _) (sym c.in-Ok.is)

pub returns-in-Err : goal.returns-in-Err
unfolding step_over
returns-in-Err c = c.no_entry.ensures ∙ ap (step_over _) (sym c.in-Err.is)
