-- `text_import::put_named` meets its contract. Assumes nothing.
use native.Mathlib.Omega.{arith}
use mathlib.Core.Path.{refl, sym}
use lib.Seq.{length-take-le}
use Rattle.text_import.proofs.Bytes.{named_len, named_put}
use Rattle.text_import.proofs.put_named.Goals as goal

pub overflow_add-from : goal.overflow_add-from
overflow_add-from c =
    let args = c.args in
    let pre = c.requires in
    let as_bytes = c.as_bytes-shown in
    omega (arith, (named_len args.out.now args.name.now args.at args.mode _ as_bytes.ensures).0, pre.0)

pub overflow_add-from-2 : goal.overflow_add-from-2
overflow_add-from-2 c =
    let args = c.args in
    let pre = c.requires in
    let as_bytes = c.as_bytes-shown in
    omega (arith, (named_len args.out.now args.name.now args.at args.mode _ as_bytes.ensures).0, pre.0)

pub slice_bounds-digits-end : goal.slice_bounds-digits-end
slice_bounds-digits-end c =
    let args = c.args in
    let as_bytes = c.as_bytes-shown in
    (named_len args.out.now args.name.now args.at args.mode _ as_bytes.ensures).1

pub slice_bounds-put_ended-end : goal.slice_bounds-put_ended-end
slice_bounds-put_ended-end c =
    let args = c.args in
    let as_bytes = c.as_bytes-shown in
    sym (length-take-le _ _ (named_len args.out.now args.name.now args.at args.mode _ as_bytes.ensures).1)

pub overflow_add-result : goal.overflow_add-result
overflow_add-result c =
    let args = c.args in
    let pre = c.requires in
    let as_bytes = c.as_bytes-shown in
    omega (arith, (named_len args.out.now args.name.now args.at args.mode _ as_bytes.ensures).0, pre.0, pre.1)

pub overflow_add-result-2 : goal.overflow_add-result-2
overflow_add-result-2 c =
    let args = c.args in
    let pre = c.requires in
    let as_bytes = c.as_bytes-shown in
    omega (arith, (named_len args.out.now args.name.now args.at args.mode _ as_bytes.ensures).0, pre.0, pre.1)

pub returns : goal.returns
returns c =
    let r = (let args = c.args in
    let as_bytes = c.as_bytes-shown in
    let put_ended = c.put_ended in
    let put-ended2 = c.put_ended-2 in
    named_put args.out.now args.name.now args.at args.mode _ as_bytes.ensures _ _ _ refl put_ended.ensures put-ended2.ensures) in
    record { value = r.0; out_after = r.1 }
