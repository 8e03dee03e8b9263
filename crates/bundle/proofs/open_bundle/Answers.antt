-- `bundle::open_bundle` meets its contract. Assumes nothing.
use mathlib.Core.Path.{sym, ◌∙◌}
use Rattle.ground.proofs.Laws.{size_open}
use Rattle.bundle.proofs.Laws.{open_over, open_in}
use Rattle.bundle.proofs.open_bundle.Goals as goal

pub open_within-requires : goal.open_within-requires
open_within-requires c = (size_open _ _ (sym c.sizes.ensures ∙ c.in-Ok.is)).0

pub returns-in-Err : goal.returns-in-Err
returns-in-Err c = sym (open_over _ _ _ c.sizes.ensures _ c.in-Err.is)

pub returns-in-Ok : goal.returns-in-Ok
returns-in-Ok c = c.open_within.ensures ∙ sym (open_in _ _ _ c.sizes.ensures c.in-Ok.is)
