-- `tree_import::import_open` meets its contract. Assumes nothing.
use Rattle.text_import.proofs.Lent.{both-other, left_alone}
use Rattle.tree_import.proofs.Laws.{both-after}
use Rattle.tree_import.proofs.import_open.Goals as goal

pub returns-then-number-ne-FEW_RECORDS : goal.returns-then-number-ne-FEW_RECORDS
returns-then-number-ne-FEW_RECORDS c =
    let r = (let args = c.args in
    let pre = c.requires in
    let small = c.import_own-a in
    let if1 = c.if-number-ne-FEW_RECORDS in
    both-other args.rules args.h args.text.now pre.0 pre.1 args.out.now 1024 _ _ small.ensures.answer small.ensures.out
    if1.true) in
    record { answer = r.0; out = r.1 }

pub returns : goal.returns
returns c =
    let r = (let args = c.args in
    let pre = c.requires in
    let small = c.import_own-a in
    let if1 = c.if-number-ne-FEW_RECORDS in
    both-after args.rules args.h args.text.now (left_alone args.rules args.h args.text.now pre.0 pre.1 args.out.now 1024 _ _
    small.ensures.answer small.ensures.out if1.false) _ _ (c.import_large.ensures.answer, c.import_large.ensures.out)) in
    record { answer = r.0; out = r.1 }
