use Prim.Native.Nat.{◌/◌}
use native.Mathlib.Omega.{arith}
use Rattle.compare.proofs.Laws.{turned-small, turned-four}
use Rattle.compare.proofs.turn_4.Goals as goal

pub overflow_mul-result : goal.overflow_mul-result
overflow_mul-result c = omega (arith, c.turn_2.ensures, turned-small 2 c.args.w)

pub overflow_add-result : goal.overflow_add-result
overflow_add-result c =
    let args = c.args in
    let turn-2 = c.turn_2 in
    let turn-22 = c.turn_2-2 in
    omega (arith, turn-2.ensures, turn-22.ensures, turned-small 2 args.w, turned-small 2 (args.w / 65536))

pub returns : goal.returns
returns c = rw (c.turn_2.ensures, c.turn_2-2.ensures) (turned-four c.args.w)
