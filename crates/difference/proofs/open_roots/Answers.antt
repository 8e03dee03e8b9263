-- `difference::open_roots` meets its contract. Assumes nothing.
use Rattle.difference.proofs.Roots as roots
use Rattle.difference.proofs.open_roots.Goals as goal

pub returns-then-left-right : goal.returns-then-left-right
returns-then-left-right c = roots.roots_other _ _ _ c.if-left-right.true

pub returns : goal.returns
returns c = roots.roots_open _ _ _ _ c.if-left-right.false c.open_bundle.ensures
