-- `piece_body::id_byte` meets its contract. Assumes nothing.
use mathlib.Core.Path.{◌∙◌, refl}
use Rattle.arriving.specs.Feed.{judged}
use Rattle.arriving.proofs.Laws.{id-last, id-more}
use Rattle.piece_close.proofs.Laws.{closes}
use Rattle.piece_body.proofs.id_byte.Goals as goal

pub returns-then-left-gt1 : goal.returns-then-left-gt1
returns-then-left-gt1 c =
    let args = c.args in
    let if1 = c.if-left-gt1 in
    let q = id-more args.held.now args.ends.now args.m args.l args.left if1.true in record { marks = c.in_id.ensures ∙ q.0; ends = q.1 }

pub returns : goal.returns
returns c =
    let r = (let args = c.args in
    let if1 = c.if-left-gt1 in
    id-last args.held.now args.ends.now args.m args.l args.left (judged args.held.now args.m.last args.l) if1.false refl _ _
    (closes args.ends.now args.m args.l (judged args.held.now args.m.last args.l) (c.close_entry.ensures.marks, c.close_entry.ensures.ends))) in
    record { marks = r.0; ends = r.1 }
