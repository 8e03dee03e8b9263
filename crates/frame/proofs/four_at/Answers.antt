-- `frame::four_at` meets its contract. Assumes nothing.
use Rattle.frame.proofs.Laws.{little-four}
use native.Mathlib.Omega.{arith}
use Rattle.frame.proofs.four_at.Goals as goal

pub returns : goal.returns
returns c = record { made = little-four _ _ c.requires _ _ c.two_at-low.ensures.made c.two_at-high.ensures.made; small = omega arith }
