-- `scan::find_last` meets its contract. Assumes nothing.
use mathlib.Core.Path.{sym, ◌∙◌}
use native.Mathlib.Omega.{arith}
use Rattle.ground.proofs.Laws.{place_here, place-next, place_end}
use Rattle.scan.proofs.find_last.Goals as goal

pub returns-then-s-i : goal.returns-then-s-i
returns-then-s-i c = sym (c.loop-i.invariant ∙ place_here _ _ _ c.loop-i-test.true c.if-s-i.true)

pub loop-i-preserved : goal.loop-i-preserved
loop-i-preserved c = c.loop-i.invariant ∙ place-next _ _ _ c.loop-i-test.true c.if-s-i.false

pub returns : goal.returns
returns c = omega (arith, c.loop-i.invariant, place_end c.args.x c.args.s.now c.loop-i.i c.loop-i-test.false)
