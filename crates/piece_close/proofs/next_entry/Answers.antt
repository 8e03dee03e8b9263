-- `piece_close::next_entry` meets its contract. Assumes nothing.
use Rattle.piece_close.proofs.Laws.{next-is}
use Rattle.piece_close.proofs.next_entry.Goals as goal

pub returns : goal.returns
returns c =
    let args = c.args in
    next-is args.m args.at args.l args.ended _ c.one_more.ensures
