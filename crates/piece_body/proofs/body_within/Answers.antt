-- `piece_body::body_within` meets its contract. Assumes nothing.
use Rattle.arriving.specs.Feed.{together}
use Rattle.arriving.proofs.Laws.{body-head, body-name, body-id}
use Rattle.piece_body.proofs.Laws.{inside, outside}
use Rattle.piece_body.proofs.body_within.Goals as goal

pub returns-then-m-ge4294967296 : goal.returns-then-m-ge4294967296
returns-then-m-ge4294967296 c =
    let args = c.args in
    outside (together args.held.now args.ends.now args.m) args.b c.if-m-ge4294967296.true

pub returns-in-Head : goal.returns-in-Head
returns-in-Head c =
    let args = c.args in
    let if1 = c.if-m-ge4294967296 in
    inside (together args.held.now args.ends.now args.m) args.b if1.false
    (body-head args.held.now args.ends.now args.m args.b _ c.in-Head.is)

pub returns-in-Name : goal.returns-in-Name
returns-in-Name c =
    let args = c.args in
    let if1 = c.if-m-ge4294967296 in
    let phase = c.in-Name in
    inside (together args.held.now args.ends.now args.m) args.b if1.false
    (body-name args.held.now args.ends.now args.m args.b _ _ _ phase.is c.name_byte.ensures.marks c.name_byte.ensures.held)

pub returns-in-Id : goal.returns-in-Id
returns-in-Id c =
    let args = c.args in
    let if1 = c.if-m-ge4294967296 in
    let phase2 = c.in-Id in
    inside (together args.held.now args.ends.now args.m) args.b if1.false
    (body-id args.held.now args.ends.now args.m args.b _ _ _ _ phase2.is (c.id_byte.ensures.marks, c.id_byte.ensures.ends))
