-- `piece_head::begun` meets its contract. Assumes nothing.
use mathlib.Core.Path.{◌∙◌}
use Rattle.piece_head.proofs.begun.Goals as goal

pub returns : goal.returns
returns c = c.placed_at.ensures ∙ rw (c.saturating_sub.ensures, c.mode_permitted.ensures, c.is_tree.ensures)
