-- `opening::open_level` meets its contract. Assumes nothing.
use Rattle.opening.proofs.Laws.{level_none, level_some}
use Rattle.opening.proofs.open_level.Goals as goal

pub returns-then-depth-eq0 : goal.returns-then-depth-eq0
returns-then-depth-eq0 c = level_none _ _ _ _ _ c.if-depth-eq0.true

pub returns : goal.returns
returns c = level_some _ _ _ _ _ _ c.if-depth-eq0.false c.open_tree.ensures
