-- `output::put` meets its contract. Assumes nothing.
use Rattle.output.proofs.Laws.{sets-turn, sets-none, sets-past, sets_fitting}
use lib.ListN.{length, take}
use lib.Seq.{length-take-le}
use native.Mathlib.Nat.{add-zero}
use native.Mathlib.Omega.{arith}
use mathlib.Core.Path.{sym, ◌∙◌}
use Prim.Native.Nat.{◌≤◌}
use Rattle.output.proofs.put.Goals as goal

pub returns-then-out-at : goal.returns-then-out-at
returns-then-out-at c = sym (sets-past c.args.out.now c.args.at c.args.piece.now c.if-out-at.true)

pub loop-k-init : goal.loop-k-init
loop-k-init c = rw (add-zero c.args.at)

pub loop-k-preserved : goal.loop-k-preserved
loop-k-preserved c =
    let a = c.args in
    let l = c.loop-k in
    l.invariant ∙ sets-turn l.out a.piece.now a.at _ l.k c.loop-k-test.true (omega arith)

pub returns : goal.returns
returns c =
    let a = c.args in
    let l = c.loop-k in
    let n = c.min-n.result in
    let past : length (take n a.piece.now) ≤ l.k = omega (arith, length-take-le n a.piece.now (omega arith)) in
    sym (l.invariant ∙ sets-none l.out _ _ l.k past) ∙ rw c.min-n.ensures (sets_fitting a.out.now a.at a.piece.now)
