-- `piece_close::close_entry` meets its contract. Assumes nothing.
use Rattle.arriving.specs.Feed.{judged}
use Rattle.piece_close.proofs.Laws.{closed-refused, closed-placed}
use Rattle.piece_close.proofs.close_entry.Goals as goal

pub returns-then-number-ne-DONE : goal.returns-then-number-ne-DONE
returns-then-number-ne-DONE c =
    let r = (let args = c.args in
    let judge = c.judge-number in
    let if1 = c.if-number-ne-DONE in
    closed-refused args.ends.now args.m args.at args.l judge.result (judged args.held.now args.m.last args.l) judge.ensures
    if1.true c.refused.ensures) in
    record { marks = r.0; ends = r.1 }

pub returns : goal.returns
returns c =
    let r = (let args = c.args in
    let judge = c.judge-number in
    let if1 = c.if-number-ne-DONE in
    let Leaves-none = c.leaves_none-none in
    closed-placed args.ends.now args.m args.at args.l judge.result (judged args.held.now args.m.last args.l) judge.ensures
    if1.false _ Leaves-none.ensures _ _ (c.open_entry-p.ensures.placed, c.open_entry-p.ensures.marks) c.placed.ensures) in
    record { marks = r.0; ends = r.1 }
