use Prim.Native.Nat.{◌/◌}
use native.Mathlib.Omega.{arith}
use Rattle.compare.proofs.Laws.{turned-small, turned_eight}
use Rattle.compare.proofs.turn_8.Goals as goal

pub overflow_mul-result : goal.overflow_mul-result
overflow_mul-result c = omega (arith, c.turn_4.ensures, turned-small 4 c.args.w)

pub overflow_add-result : goal.overflow_add-result
overflow_add-result c =
    let args = c.args in
    let turn-4 = c.turn_4 in
    let turn-42 = c.turn_4-2 in
    omega (arith, turn-4.ensures, turn-42.ensures, turned-small 4 args.w, turned-small 4 (args.w / 4294967296))

pub returns : goal.returns
returns c = rw (c.turn_4.ensures, c.turn_4-2.ensures) (turned_eight c.args.w)
