-- `text_import::write_one` meets its contract. Assumes nothing.
use native.Mathlib.Omega.{arith}
use Rattle.ground.proofs.Laws.{id-is, id_small}
use Rattle.text_import.proofs.Bytes.{one-places, one-digits, one-sizes, one-put}
use mathlib.Core.Path.{refl}
use Rattle.text_import.proofs.write_one.Goals as goal

pub overflow_sub-tab : goal.overflow_sub-tab
overflow_sub-tab c =
    let args = c.args in
    let name-from = c.name_from-from in
    let name-end = c.name_end-end in
    omega (arith, (one-places args.rules args.h args.b.now c.requires.b_value.0 name-from.ensures name-end.ensures).0)

pub overflow_mul-id : goal.overflow_mul-id
overflow_mul-id c = omega (arith, (id_small _ (id-is _ c.requires.b_value.1)).1)

pub overflow_sub-id : goal.overflow_sub-id
overflow_sub-id c =
    let args = c.args in
    let name-from = c.name_from-from in
    let name-end = c.name_end-end in
    omega (arith, (one-places args.rules args.h args.b.now c.requires.b_value.0 name-from.ensures name-end.ensures).0)

pub slice_bounds-put_named-count : goal.slice_bounds-put_named-count
slice_bounds-put_named-count c =
    let args = c.args in
    let name-from = c.name_from-from in
    let name-end = c.name_end-end in
    (one-places args.rules args.h args.b.now c.requires.b_value.0 name-from.ensures name-end.ensures).1

pub slice_bounds-put_named-start : goal.slice_bounds-put_named-start
slice_bounds-put_named-start c =
    let args = c.args in
    let name-from = c.name_from-from in
    let name-end = c.name_end-end in
    (one-places args.rules args.h args.b.now c.requires.b_value.0 name-from.ensures name-end.ensures).1

pub slice_bounds-put_named-end : goal.slice_bounds-put_named-end
slice_bounds-put_named-end c =
    let args = c.args in
    let name-from = c.name_from-from in
    let name-end = c.name_end-end in
    omega (arith, (one-places args.rules args.h args.b.now c.requires.b_value.0 name-from.ensures name-end.ensures).2)

pub put_named-last-requires : goal.put_named-last-requires
put_named-last-requires c =
    let args = c.args in
    let name-from = c.name_from-from in
    let name-end = c.name_end-end in
    (c.requires.at_bound.0, omega (arith, (one-sizes args.rules args.h args.b.now c.requires.b_value.0 name-from.ensures name-end.ensures 0 0 _ refl).0, c.requires.at_bound.1))

pub slice_bounds-put_id-end : goal.slice_bounds-put_id-end
slice_bounds-put_id-end c =
    let args = c.args in
    let name-from = c.name_from-from in
    let name-end = c.name_end-end in
    (one-places args.rules args.h args.b.now c.requires.b_value.0 name-from.ensures name-end.ensures).3

pub put_id-requires : goal.put_id-requires
put_id-requires c =
    let args = c.args in
    let name-from = c.name_from-from in
    let name-end = c.name_end-end in
    let w = one-digits args.rules args.h args.b.now c.requires.b_value.0 name-from.ensures name-end.ensures in
    (w.0, w.1, c.requires.b_value.1)

pub overflow_add-result : goal.overflow_add-result
overflow_add-result c =
    let args = c.args in
    let name-from = c.name_from-from in
    let name-end = c.name_end-end in
    let put-named = c.put_named-last in
    omega (
      arith,
      (one-sizes args.rules args.h args.b.now c.requires.b_value.0 name-from.ensures name-end.ensures _ _ _ put-named.ensures.value).1,
      (id_small _ (id-is _ c.requires.b_value.1)).1,
      c.requires.at_bound,
    )

pub returns : goal.returns
returns c =
    let r = (let args = c.args in
    let name-from = c.name_from-from in
    let name-end = c.name_end-end in
    let front-mode = c.front_mode in
    let put-named = c.put_named-last in
    let put_id = c.put_id in
    one-put args.rules args.h args.b.now c.requires.b_value.0 name-from.ensures name-end.ensures c.requires.b_value.1 _ front-mode.ensures _ _ _ _ _
    put-named.ensures.value put-named.ensures.out_after put_id.ensures) in
    record { value = r.0; out_after = r.1 }
