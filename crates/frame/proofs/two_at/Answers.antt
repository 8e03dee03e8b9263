-- `frame::two_at` meets its contract. Assumes nothing.
use Prim.Native.Nat.{◌+◌}
use native.Mathlib.Omega.{arith}
use mathlib.Core.Path.{refl}
use Rattle.frame.proofs.Laws.{little-two}
use Rattle.frame.proofs.two_at.Goals as goal

pub overflow_cast-a : goal.overflow_cast-a
overflow_cast-a c = omega (arith, c.type_inv.s c.args.i)

pub overflow_cast-b : goal.overflow_cast-b
overflow_cast-b c = omega (arith, c.type_inv.s (c.args.i + 1))

pub overflow_mul-result : goal.overflow_mul-result
overflow_mul-result c = omega (arith, c.type_inv.s (c.args.i + 1))

pub overflow_add-result : goal.overflow_add-result
overflow_add-result c = omega (arith, c.shared_slice_known-1.given c.args.i, c.type_inv.s (c.args.i + 1))

pub returns : goal.returns
returns c =
    let args = c.args in
    let pre = c.requires in
    let shared-slice-known = c.shared_slice_known-1 in
    record { made = little-two args.s.now args.i pre _ _ refl refl; small = omega (arith, shared-slice-known.given args.i, c.type_inv.s (args.i + 1)) }
