-- `edit_walk::put_new` meets its contract. Assumes nothing.
use mathlib.Core.Path.{sym}
use native.Mathlib.Omega.{arith}
use lib.Seq.{length-take-le}
use Rattle.mode.proofs.Laws.{mode_le, text-is}
use Rattle.edit_walk.proofs.Laws.{new-length, new-stored}
use Rattle.edit_walk.specs.Walk.{new_entry}
use Rattle.edit_walk.proofs.put_new.Goals as goal

pub overflow_add-second : goal.overflow_add-second
overflow_add-second c =
    let args = c.args in
    let pre = c.requires in
    omega (arith, (text-is _ _ c.as_bytes-text.ensures).0, mode_le args.mode, pre.2)

pub overflow_add-second-2 : goal.overflow_add-second-2
overflow_add-second-2 c =
    let args = c.args in
    let pre = c.requires in
    omega (arith, (text-is _ _ c.as_bytes-text.ensures).0, mode_le args.mode, pre.2)

pub overflow_add-third : goal.overflow_add-third
overflow_add-third c =
    let args = c.args in
    let pre = c.requires in
    omega (arith, (text-is _ _ c.as_bytes-text.ensures).0, mode_le args.mode, pre.0, pre.2)

pub overflow_add-third-2 : goal.overflow_add-third-2
overflow_add-third-2 c =
    let args = c.args in
    let pre = c.requires in
    omega (arith, (text-is _ _ c.as_bytes-text.ensures).0, mode_le args.mode, pre.0, pre.2)

pub slice_bounds-digits-end : goal.slice_bounds-digits-end
slice_bounds-digits-end c =
    let as_bytes = c.as_bytes-text in
    omega (arith, (text-is _ _ as_bytes.ensures).1)

pub slice_bounds-put_ended-end : goal.slice_bounds-put_ended-end
slice_bounds-put_ended-end c =
    let as_bytes = c.as_bytes-text in
    sym (length-take-le _ _ (omega (arith, (text-is _ _ as_bytes.ensures).1)))

pub overflow_add-result : goal.overflow_add-result
overflow_add-result c =
    let args = c.args in
    let pre = c.requires in
    let as_bytes = c.as_bytes-text in
    omega (arith, (text-is _ _ as_bytes.ensures).0, mode_le args.mode, pre.0, pre.1, pre.2)

pub returns : goal.returns
returns c =
    let args = c.args in
    let pre = c.requires in
    let as_bytes = c.as_bytes-text in
    let put_ended = c.put_ended in
    let put-ended2 = c.put_ended-2 in
    let put = c.put in
    let t = text-is _ _ as_bytes.ensures in
    let new = new_entry args.mode args.name.now args.id.now in record { next = (omega (arith, new-length new, t.0), omega (arith, t.0, mode_le args.mode, pre.0, pre.1)); out = new-stored new _ _ _ _ _ _ _ _ t.2 (omega (arith, t.0)) (omega (arith, t.0)) put_ended.ensures put-ended2.ensures put.ensures }
