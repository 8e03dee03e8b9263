-- `piece_letter::letter` meets its contract. Assumes nothing.
use mathlib.Core.Path.{◌∙◌}
use Rattle.piece_letter.proofs.letter.Goals as goal

pub returns : goal.returns
returns c = c.placed_at.ensures ∙ rw c.line_over-next.ensures
