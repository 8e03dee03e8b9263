-- `piece_letter::line_over` meets its contract. Assumes nothing.
use Rattle.piece_letter.proofs.line_over.Goals as goal

pub returns : goal.returns
returns c = rw (c.sharing.ensures, c.meet-stand.ensures)
