-- `tree_export::put_digits` meets its contract. Assumes nothing.
use Prim.Native.Nat.{ℕ}
use native.Mathlib.Omega.{arith}
use mathlib.Core.Path.{refl, sym}
use lib.ListN.{replicate}
use lib.Seq.{length-take-le}
use Rattle.ground.proofs.Laws.{id-is, id_small}
use Rattle.tree_export.proofs.Laws.{digits-kept, digits_added}
use Rattle.tree_export.proofs.put_digits.Goals as goal

pub overflow_mul-many : goal.overflow_mul-many
overflow_mul-many c = omega (arith, (id_small _ (id-is _ c.requires.0)).1)

pub slice_bounds-digits-end : goal.slice_bounds-digits-end
slice_bounds-digits-end c =
    let args = c.args in
    let pre = c.requires in
    let hex_of_id = c.hex_of_id in
    omega (arith, digits-kept args.id.now (replicate {A = ℕ} 64 0) _ pre.0 refl hex_of_id.ensures.out_after, (id_small _ (id-is _ pre.0)).1)

pub slice_bounds-put_ended-end : goal.slice_bounds-put_ended-end
slice_bounds-put_ended-end c =
    let args = c.args in
    let pre = c.requires in
    let hex_of_id = c.hex_of_id in
    sym (length-take-le _ _ (omega (
      arith,
      digits-kept args.id.now (replicate {A = ℕ} 64 0) _ pre.0 refl hex_of_id.ensures.out_after,
      (id_small _
          (id-is _ pre.0)).1,
    )))

pub overflow_add-result : goal.overflow_add-result
overflow_add-result c =
    let pre = c.requires in
    omega (arith, (id_small _ (id-is _ pre.0)).1, pre.1)

pub overflow_add-result-2 : goal.overflow_add-result-2
overflow_add-result-2 c =
    let pre = c.requires in
    omega (arith, (id_small _ (id-is _ pre.0)).1, pre.1)

pub returns : goal.returns
returns c =
    let args = c.args in
    let pre = c.requires in
    let hex_of_id = c.hex_of_id in
    let put_ended = c.put_ended in
    digits_added args.id.now (replicate {A = ℕ} 64 0) _ _ _ args.at pre.0 refl hex_of_id.ensures.out_after put_ended.ensures
