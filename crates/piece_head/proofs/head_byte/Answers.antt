-- `piece_head::head_byte` meets its contract. Assumes nothing.
use Rattle.piece_head.proofs.Laws.{head_full, head_more, head_eighth}
use Rattle.piece_head.proofs.head_byte.Goals as goal

pub returns-then-is_full : goal.returns-then-is_full
returns-then-is_full c =
    let args = c.args in
    let full = c.is_full in
    head_full args.m args.at args.k args.b _ full.ensures c.if-is_full.true c.refuse.ensures

pub returns-then-k-lt7 : goal.returns-then-k-lt7
returns-then-k-lt7 c =
    let args = c.args in
    let full = c.is_full in
    let if1 = c.if-is_full in
    head_more args.m args.at args.k args.b _ full.ensures if1.false c.if-k-lt7.true c.placed_at.ensures

pub returns : goal.returns
returns c =
    let args = c.args in
    let full = c.is_full in
    let if1 = c.if-is_full in
    head_eighth args.m args.at args.k args.b _ full.ensures if1.false c.if-k-lt7.false c.begin.ensures
