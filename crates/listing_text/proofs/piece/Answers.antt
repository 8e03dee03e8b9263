-- `listing_text::piece` meets its contract. Assumes nothing.
use Rattle.listing_text.proofs.Laws.{piece_is, piece-none, piece-rest, piece-whole}
use Rattle.listing_text.proofs.piece.Goals as goal

pub returns-then-s-from : goal.returns-then-s-from
returns-then-s-from c =
    piece_is c.args.s.now _ c.args.from c.args.n
    (piece-none c.args.s.now c.args.from c.args.n c.if-s-from.true)

pub returns-then-s-from-2 : goal.returns-then-s-from-2
returns-then-s-from-2 c =
    piece_is c.args.s.now _ c.args.from c.args.n
    (piece-rest c.args.s.now c.args.from c.args.n c.if-s-from-2.true)

pub returns : goal.returns
returns c =
    piece_is c.args.s.now _ c.args.from c.args.n
    (piece-whole c.args.s.now c.args.from c.args.n)
