-- `merge::only_right` meets its contract. Assumes nothing.
use mathlib.Core.Path.{◌∙◌}
use Rattle.merge.proofs.Laws as laws
use Rattle.merge.proofs.only_right.Goals as goal

pub returns : goal.returns
returns c = c.change_of.ensures ∙ laws.one-sided c.args.e _ _ _ c.no_side.ensures c.side_of.ensures c.is_folder.ensures
