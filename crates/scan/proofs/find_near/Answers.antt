-- `scan::find_near` meets its contract. Assumes nothing.
use mathlib.Core.Path.{refl, sym, ◌∙◌}
use native.Mathlib.Omega.{arith}
use Rattle.scan.proofs.Laws.{place-past, place_in}
use Rattle.scan.proofs.find_near.Goals as goal

pub loop-i-init : goal.loop-i-init
loop-i-init c = (omega arith, refl)

pub returns-then-m-ne0 : goal.returns-then-m-ne0
returns-then-m-ne0 c =
    let args = c.args in
    let loop = c.loop-i in
    let marks-at = c.marks_at-m in
    let if1 = c.if-m-ne0 in
    sym (loop.invariant.1 ∙ place_in args.x args.s.now loop.i _ (omega arith) marks-at.ensures _ c.place.ensures.first if1.true)

pub loop-i-preserved : goal.loop-i-preserved
loop-i-preserved c =
    let args = c.args in
    let loop = c.loop-i in
    (omega arith, loop.invariant.1 ∙ place-past args.x args.s.now loop.i _ (omega arith) c.marks_at-m.ensures _ c.if-m-ne0.false (omega arith))

pub returns : goal.returns
returns c = c.find_last.ensures ∙ sym c.loop-i.invariant.1
