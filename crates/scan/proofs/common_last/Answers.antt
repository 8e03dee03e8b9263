-- `scan::common_last` meets its contract. Assumes nothing.
use native.Mathlib.Omega.{arith}
use Rattle.ground.proofs.Laws.{walk-on, walk_off}
use Rattle.scan.proofs.Laws.{common-end}
use Rattle.scan.proofs.common_last.Goals as goal

pub returns-then-a-i : goal.returns-then-a-i
returns-then-a-i c =
    let a = c.args in
    omega (arith, c.loop-i.invariant, walk_off a.a.now a.b.now c.loop-i.i (omega (arith, c.requires.0)) (omega (arith, c.requires.0)) c.if-a-i.true)

pub loop-i-preserved : goal.loop-i-preserved
loop-i-preserved c =
    let a = c.args in
    omega (arith, c.loop-i.invariant, walk-on a.a.now a.b.now c.loop-i.i (omega (arith, c.requires.0)) (omega (arith, c.requires.0)) c.if-a-i.false)

pub returns : goal.returns
returns c =
    let a = c.args in
    omega (arith, c.loop-i.invariant, common-end a.a.now a.b.now c.loop-i.i (omega (arith, c.requires.0)))
