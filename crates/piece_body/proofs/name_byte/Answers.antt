-- `piece_body::name_byte` meets its contract. Assumes nothing.
use mathlib.Core.Path.{◌∙◌}
use Rattle.arriving.proofs.Laws.{name_nul, name-long, name-more}
use Rattle.piece_body.proofs.name_byte.Goals as goal

pub returns-then-b-eq0 : goal.returns-then-b-eq0
returns-then-b-eq0 c =
    let args = c.args in
    let if1 = c.if-b-eq0 in
    let q = name_nul args.held.now args.m args.l args.b if1.true in record { marks = c.in_id.ensures ∙ q.0; held = q.1 }

pub returns-then-size-ge-MOST_HELD : goal.returns-then-size-ge-MOST_HELD
returns-then-size-ge-MOST_HELD c =
    let args = c.args in
    let if1 = c.if-b-eq0 in
    let if2 = c.if-size-ge-MOST_HELD in
    let q = name-long args.held.now args.m args.l args.b if1.false if2.true in record { marks = c.refused.ensures ∙ q.0; held = q.1 }

pub returns : goal.returns
returns c =
    let args = c.args in
    let if1 = c.if-b-eq0 in
    let if2 = c.if-size-ge-MOST_HELD in
    let q = name-more args.held.now args.m args.l args.b if1.false if2.false in record { marks = c.letter.ensures ∙ q.0; held = q.1 }
