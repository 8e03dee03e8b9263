-- `scan::count_to` meets its contract. Assumes nothing.
use mathlib.Core.Path.{◌∙◌}
use Rattle.ground.proofs.Laws.{place-count}
use Rattle.scan.proofs.count_to.Goals as goal

pub returns : goal.returns
returns c = c.find_near.ensures ∙ place-count _ _
