-- `words::word_at` meets its contract. Assumes nothing.
use Rattle.words.proofs.Laws.{word-lf, word-last}
use Rattle.words.proofs.word_at.Goals as goal

pub returns-then-end-s : goal.returns-then-end-s
returns-then-end-s c =
    let args = c.args in
    word-lf args.s.now args.at _ _ c.nearer-start.ensures c.find_byte-end.ensures c.if-end-s.true

pub returns : goal.returns
returns c =
    let args = c.args in
    word-last args.s.now args.at _ _ c.nearer-start.ensures c.find_byte-end.ensures c.if-end-s.false
