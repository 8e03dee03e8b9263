-- `scan::skip` meets its contract. Assumes nothing.
use Prim.Native.Nat.{◌+◌, ◌-◌}
use mathlib.Core.Path.{sym, ◌∙◌}
use native.Mathlib.Omega.{arith}
use lib.ListN.{length}
use Rattle.ground.proofs.Laws.{place_end}
use Rattle.scan.proofs.Laws.{place-part, place-clear, place-met}
use Rattle.scan.proofs.skip.Goals as goal

pub returns-then-not-lacks : goal.returns-then-not-lacks
returns-then-not-lacks c =
    let at = c.loop-at.at in
    (omega arith, c.loop-at.invariant.1, place-met 0 c.args.s.now at _ (at + 32) (omega arith) (omega arith) (sym c.if-not-lacks.ensures))

pub loop-at-preserved : goal.loop-at-preserved
loop-at-preserved c =
    let at = c.loop-at.at in
    (omega arith, c.loop-at.invariant.1 ∙ place-clear 0 c.args.s.now at _ (at + 32) (omega arith) (omega arith) (sym c.if-not-lacks.ensures))

pub returns-then-lacks : goal.returns-then-lacks
returns-then-lacks c =
    let s = c.args.s.now in
    let last = length s - 32 in
    place-part 0 s c.args.from last c.loop-at.at (omega arith) (omega arith) c.loop-at.invariant.1
    ∙ place-clear 0 s last _ (length s) (omega arith) (omega arith) (sym c.if-lacks.ensures)
    ∙ place_end 0 s (length s) (omega arith)

pub returns-else-lacks : goal.returns-else-lacks
returns-else-lacks c =
    let s = c.args.s.now in
    let last = length s - 32 in (
      omega arith,
      place-part 0 s c.args.from last c.loop-at.at (omega arith) (omega arith) c.loop-at.invariant.1,
      place-met 0 s last _ (last + 32) (omega arith) (omega arith) (sym c.if-lacks.ensures),
    )
