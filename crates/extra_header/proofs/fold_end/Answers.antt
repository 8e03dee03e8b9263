-- `extra_header::fold_end` meets its contract. Assumes nothing.
use Prim.Native.Nat.{◌+◌}
use mathlib.Core.Path.{refl, sym, ◌∙◌}
use native.Mathlib.Omega.{arith}
use Rattle.extra_header.specs.Extra.{fold_end}
use Rattle.extra_header.proofs.Laws.{fold_end_here, fold_other, fold_open, fold_next}
use Rattle.ground.proofs.Laws.{place-from}
use Rattle.extra_header.proofs.fold_end.Goals as goal

pub loop-at-init : goal.loop-at-init
unfolding fold_end
loop-at-init c = refl

pub returns-else-s-at-eq32 : goal.returns-else-s-at-eq32
returns-else-s-at-eq32 c =
    let loop = c.loop-at in
    let a = c.args in
    sym (loop.invariant ∙ fold_other a.start a.s.now loop.at c.loop-at-test.true c.if-s-at-eq32.false)

pub returns-then-s-lf : goal.returns-then-s-lf
returns-then-s-lf c =
    let loop-test = c.loop-at-test in
    let loop = c.loop-at in
    let a = c.args in
    sym (loop.invariant ∙ fold_open a.start a.s.now loop.at loop-test.true c.if-s-at-eq32.true _ c.find_byte-lf.ensures
    c.if-s-lf.true)

pub loop-at-smaller : goal.loop-at-smaller
loop-at-smaller c =
    let loop-test = c.loop-at-test in
    let loop = c.loop-at in
    let a = c.args in
    omega (arith, c.find_byte-lf.ensures, place-from 10 a.s.now (loop.at + 1), loop-test.true)

pub loop-at-preserved : goal.loop-at-preserved
loop-at-preserved c =
    let loop-test = c.loop-at-test in
    let loop = c.loop-at in
    let a = c.args in
    loop.invariant ∙ fold_next a.start a.s.now loop.at loop-test.true c.if-s-at-eq32.true _ c.find_byte-lf.ensures c.if-s-lf.false

pub returns-after-loop-at : goal.returns-after-loop-at
returns-after-loop-at c =
    let a = c.args in
    sym (c.loop-at.invariant ∙ fold_end_here a.start a.s.now c.loop-at.at c.loop-at-test.false)
