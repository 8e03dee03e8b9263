-- `scan::find_byte` meets its contract. Assumes nothing.
use Prim.Native.Nat.{◌+◌}
use mathlib.Core.Path.{refl, sym, ◌∙◌}
use native.Mathlib.Omega.{arith}
use Rattle.ground.proofs.Laws.{place_end}
use Rattle.scan.proofs.Laws.{place-clear, place-met}
use Rattle.scan.proofs.find_byte.Goals as goal

pub returns-then-s-from : goal.returns-then-s-from
returns-then-s-from c = sym (place_end c.args.x _ _ (omega arith))

pub loop-i-init : goal.loop-i-init
loop-i-init c = (omega arith, refl)

pub first_of-requires : goal.first_of-requires
first_of-requires c =
    let i = c.loop-i.i in
    record { in_bounds = omega arith; found = place-met c.args.x c.args.s.now i _ (i + 32) (omega arith) (omega arith) (sym c.if-not-lacks.ensures) }

pub returns-then-not-lacks : goal.returns-then-not-lacks
returns-then-not-lacks c = c.first_of.ensures ∙ sym c.loop-i.invariant.1

pub loop-i-preserved : goal.loop-i-preserved
loop-i-preserved c =
    let i = c.loop-i.i in
    (omega arith, c.loop-i.invariant.1 ∙ place-clear c.args.x c.args.s.now i _ (i + 32) (omega arith) (omega arith) (sym c.if-not-lacks.ensures))

pub returns : goal.returns
returns c = c.find_near.ensures ∙ sym c.loop-i.invariant.1
