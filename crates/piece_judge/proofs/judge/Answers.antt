-- `piece_judge::judge` meets its contract. Assumes nothing.
use mathlib.Core.Path.{sym}
use native.Mathlib.Omega.{arith}
use lib.Seq.{length-take-le}
use Rattle.std.proofs.lemmas.Bool.{not-true, not-false}
use Rattle.arriving.proofs.Laws.{judged-text, judged-name, judged-fine, judged-after}
use Rattle.piece_judge.proofs.judge.Goals as goal

pub returns-then-not-l : goal.returns-then-not-l
returns-then-not-l c = let x = c.args in judged-text x.held.now x.last x.l (not-true _ c.if-not-l.true)

pub slice_bounds-name_number-end : goal.slice_bounds-name_number-end
slice_bounds-name_number-end c = sym (length-take-le _ _ (omega (arith, c.shorter-size.ensures)))

pub returns-then-number-ne-DONE : goal.returns-then-number-ne-DONE
returns-then-number-ne-DONE c =
    let x = c.args in
    judged-name x.held.now x.last x.l (not-false _ c.if-not-l.false) _ _ c.shorter-size.ensures c.name_number-number.ensures
    c.if-number-ne-DONE.true

pub returns-then-is_over : goal.returns-then-is_over
returns-then-is_over c =
    let x = c.args in
    judged-fine x.held.now x.last x.l (not-false _ c.if-not-l.false) _ _ c.shorter-size.ensures c.name_number-number.ensures
    c.if-number-ne-DONE.false _ c.is_over.ensures c.if-is_over.true

pub returns-else-is_over : goal.returns-else-is_over
returns-else-is_over c =
    let x = c.args in
    judged-after x.held.now x.last x.l (not-false _ c.if-not-l.false) _ _ c.shorter-size.ensures c.name_number-number.ensures
    c.if-number-ne-DONE.false _ c.is_over.ensures c.if-is_over.false
