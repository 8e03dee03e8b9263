-- `piece_some::head_some` meets its contract. Assumes nothing.
use native.Mathlib.Omega.{arith}
use Rattle.piece_some.proofs.Bytes.{head-within, taken-long, head-is}
use Rattle.piece_some.proofs.head_some.Goals as goal

pub slice_bounds-put-end-2 : goal.slice_bounds-put-end-2
slice_bounds-put-end-2 c =
    let args = c.args in
    let head-most = c.head_most-n in
    taken-long _ args.bytes.now (head-within args.k args.count _ _ head-most.ensures).0

pub overflow_add-result : goal.overflow_add-result
overflow_add-result c =
    let args = c.args in
    let fits = c.ranges in
    let head-most = c.head_most-n in
    record { fits = omega (arith, fits.k.fits, head-within args.k args.count _ _ head-most.ensures) }

pub returns : goal.returns
returns c =
    let args = c.args in
    let head-most = c.head_most-n in
    head-is args.head args.k args.bytes.now _ _ head-most.ensures _ c.put.ensures
