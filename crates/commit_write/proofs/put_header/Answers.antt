-- `commit_write::put_header` meets its contract. Assumes nothing.
use Rattle.commit_write.proofs.Laws.{name-room, header-put}
use Rattle.commit_check.proofs.Laws.{header-well}
use native.Mathlib.Omega.{arith}
use Rattle.commit_write.proofs.put_header.Goals as goal

pub put_name-value-requires : goal.put_name-value-requires
put_name-value-requires c =
    let r = (let args = c.args in
    name-room args.bytes.now args.x c.requires.x_value c.requires.bytes_len_bound.0 args.at c.requires.bytes_len_bound.1) in
    record { from_le_to = r.0; from_bound = r.1 }

pub slice_bounds-put_value-count : goal.slice_bounds-put_value-count
slice_bounds-put_value-count c =
    let args = c.args in
    omega (arith, header-well args.bytes.now args.x c.requires.x_value)

pub slice_bounds-put_value-start : goal.slice_bounds-put_value-start
slice_bounds-put_value-start c =
    let args = c.args in
    omega (arith, header-well args.bytes.now args.x c.requires.x_value)

pub slice_bounds-put_value-end : goal.slice_bounds-put_value-end
slice_bounds-put_value-end c =
    let args = c.args in
    omega (arith, header-well args.bytes.now args.x c.requires.x_value)

pub returns : goal.returns
returns c =
    let r = (let args = c.args in
    let put-name = c.put_name-value in
    let put_value = c.put_value in
    header-put args.bytes.now args.x c.requires.x_value c.requires.bytes_len_bound.0 args.at c.requires.bytes_len_bound.1 args.out.now _ _ _ _ put-name.ensures.value
    put-name.ensures.out_after put_value.ensures.value put_value.ensures.out_after) in
    record { value = r.0; out_after = r.1 }
