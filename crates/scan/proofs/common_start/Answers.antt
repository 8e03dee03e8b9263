-- `scan::common_start` meets its contract. Assumes nothing.
use mathlib.Core.Path.{sym, ◌∙◌}
use native.Mathlib.Omega.{arith}
use Rattle.scan.proofs.Laws.{common_past, common_in}
use Rattle.scan.proofs.common_start.Goals as goal

pub loop-i-init : goal.loop-i-init
loop-i-init c = (omega arith, omega arith)

pub returns-then-d-ne0 : goal.returns-then-d-ne0
returns-then-d-ne0 c =
    let args = c.args in
    let loop = c.loop-i in
    let eight = c.eight in
    omega (
      arith,
      loop.invariant.1,
      common_in args.a.now args.b.now loop.i _ _ (omega arith) (omega arith)
          eight.ensures c.eight-in-loop-i.ensures _ c.place.ensures.first c.if-d-ne0.true,
    )

pub loop-i-preserved : goal.loop-i-preserved
loop-i-preserved c =
    let args = c.args in
    let loop = c.loop-i in (
      omega arith,
      omega (
        arith,
        loop.invariant.1,
        common_past args.a.now args.b.now loop.i _ _ (omega arith) (omega arith)
            c.eight.ensures c.eight-in-loop-i.ensures c.if-d-ne0.false,
      ),
    )

pub common_last-requires : goal.common_last-requires
common_last-requires c = (c.shorter-n.ensures, c.loop-i.invariant.0)

pub returns : goal.returns
returns c = c.common_last.ensures ∙ sym c.loop-i.invariant.1
