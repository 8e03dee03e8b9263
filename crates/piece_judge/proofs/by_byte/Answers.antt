-- `piece_judge::by_byte` meets its contract. Assumes nothing.
use Rattle.arriving.proofs.Laws.{byte_level, byte_over, byte_not, end_over, end_not, end_file}
use Rattle.piece_judge.proofs.by_byte.Goals as goal
use Rattle.piece_judge.proofs.by_byte.Goals.{else-last-via-then-last+else-b-le47, else-last-via-else-last}

pub returns-then-x-b : goal.returns-then-x-b
returns-then-x-b c = let x = c.args in byte_level x.last x.size x.x x.b c.if-size-last.true c.if-x-b.true

pub returns-then-x-b-2 : goal.returns-then-x-b-2
returns-then-x-b-2 c =
    let x = c.args in
    byte_over x.last x.size x.x x.b c.if-size-last.true c.if-x-b.false c.if-x-b-2.true

pub returns-else-x-b-2 : goal.returns-else-x-b-2
returns-else-x-b-2 c =
    let x = c.args in
    byte_not x.last x.size x.x x.b c.if-size-last.true c.if-x-b.false c.if-x-b-2.false

pub returns-then-b-le47 : goal.returns-then-b-le47
returns-then-b-le47 c = let x = c.args in end_not x.last x.size x.x x.b c.if-size-last.false c.if-last.true c.if-b-le47.true

pub returns-else-last : goal.returns-else-last
returns-else-last c =
    let x = c.args in
    elim c.else-last.branch [
      | else-last-via-then-last+else-b-le47 w ↦ end_over x.last x.size x.x x.b c.if-size-last.false w.if-last.true w.if-b-le47.false
      | else-last-via-else-last w ↦ end_file x.last x.size x.x x.b c.if-size-last.false w.if-last.false
    ]
