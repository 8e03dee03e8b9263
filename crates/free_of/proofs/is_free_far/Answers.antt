-- `free_of::is_free_far` meets its contract. Assumes nothing.
use Prim.Native.Nat.{◌-◌}
use mathlib.Core.Path.{sym, ◌∙◌}
use native.Mathlib.Omega.{arith}
use lib.ListN.{length}
use Rattle.free_of.proofs.Laws.{free_on, free_not, free_last}
use Rattle.free_of.proofs.is_free_far.Goals as goal

pub returns-then-not-lacks : goal.returns-then-not-lacks
returns-then-not-lacks c = free_not c.args.x c.args.s.now c.loop-at.at _ (omega arith) (sym c.if-not-lacks.ensures)

pub loop-at-preserved : goal.loop-at-preserved
loop-at-preserved c =
    let on = free_on c.args.x c.args.s.now c.loop-at.at _ c.loop-at.invariant (omega arith) (sym c.if-not-lacks.ensures) in
    omega (arith, on)

pub returns : goal.returns
returns c =
    let s = c.args.s.now in
    c.lacks-2.ensures ∙ free_last c.args.x s c.loop-at.at (length s - 32) _ c.loop-at.invariant (omega arith) (omega arith)
