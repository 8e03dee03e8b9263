-- `piece_between::ran` meets its contract. Assumes nothing.
use Rattle.piece_between.proofs.Between.{ran_double, ran_on}
use Rattle.piece_between.proofs.ran.Goals as goal

pub returns-then-t : goal.returns-then-t
returns-then-t c =
    let args = c.args in
    let if1 = c.if-t in
    ran_double args.m args.at args.all args.i args.t if1.true c.refuse-marks.result c.refuse-marks.ensures

pub returns : goal.returns
returns c =
    let args = c.args in
    let if1 = c.if-t in
    ran_on args.m args.at args.all args.i args.t if1.false c.head_after.result c.head_after.ensures
