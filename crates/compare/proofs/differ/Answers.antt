-- `compare::differ` meets its contract. Assumes nothing.
use Prim.Native.Nat.{◌-◌}
use mathlib.Core.Path.{◌≡◌, refl, sym, ◌∙◌}
use native.Mathlib.Nat.{add-zero}
use native.Mathlib.Omega.{arith}
use Rattle.compare.proofs.Laws.{agree_step, differ_here, differ_on}
use Rattle.compare.proofs.differ.Goals as goal
use Rattle.compare.proofs.differ.Goals.{then-a-i, else-a-i}

pub loop-k-init : goal.loop-k-init
loop-k-init c = (omega arith, λ z. rw add-zero c.requires.1, λ n. absurd (n refl))

pub loop-k-preserved : goal.loop-k-preserved
loop-k-preserved c =
    let args = c.args in
    let pre = c.requires in
    let loop = c.loop-k in
    let step = agree_step args.a.now args.b.now args.i loop.k (omega (arith, pre.0.0)) (omega (arith, pre.0.1)) in (
      omega arith,
      λ z. elim c.if-a-i.branch [
        | then-a-i w ↦ absurd (omega (arith, sym w.hit-is ∙ z))
        | else-a-i w ↦ step w.if-a-i.false (loop.invariant.1 (sym w.hit-is ∙ z))
      ],
      λ n. elim c.if-a-i.branch [
        | then-a-i w ↦ differ_here args.a.now args.b.now args.i loop.k w.if-a-i.true
        | else-a-i w ↦ differ_on args.a.now args.b.now args.i loop.k (loop.invariant.2 (λ z. n (w.hit-is ∙ z)))
      ],
    )

pub returns : goal.returns
returns c =
    let e : c.loop-k.k ≡ c.args.n = omega arith in
    record { none = λ z. rw (← e) (c.loop-k.invariant.1 z); some = λ n. rw (← e) (c.loop-k.invariant.2 n) }
