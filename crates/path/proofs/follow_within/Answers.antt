-- `path::follow_within` meets its contract. Assumes nothing.
use mathlib.Core.Path.{sym, ◌∙◌}
use Rattle.path.proofs.Laws.{open_shut, open_good}
use Rattle.path.proofs.follow_within.Goals as goal

pub returns-in-Err : goal.returns-in-Err
returns-in-Err c = c.refused.ensures ∙ sym (open_shut _ _ _ _ c.open_bundle.ensures _ c.in-Err.is)

pub returns-in-Ok : goal.returns-in-Ok
returns-in-Ok c = c.walk_path.ensures ∙ sym (open_good _ _ _ _ c.open_bundle.ensures _ c.in-Ok.is)
