-- `piece_some::some_at` meets its contract. Assumes nothing.
use native.Mathlib.Omega.{arith}
use Rattle.piece_some.proofs.Bytes.{count_most, at-is}
use Rattle.piece_some.proofs.some_at.Goals as goal

pub overflow_add-m : goal.overflow_add-m
overflow_add-m c =
    let args = c.args in
    let pre = c.requires in
    let some_in = c.some_in-g in
    omega (
      arith,
      pre,
      count_most args.held.now args.m args.piece.now args.i args.most pre.0 some_in.result some_in.ensures.taken,
    )

pub overflow_add-result : goal.overflow_add-result
overflow_add-result c =
    let args = c.args in
    let pre = c.requires in
    let some_in = c.some_in-g in
    let good = c.well_formed in
    omega (
      arith,
      pre,
      good.1.1.0.0,
      count_most args.held.now args.m args.piece.now args.i args.most pre.0 some_in.result some_in.ensures.taken,
    )

pub returns : goal.returns
returns c =
    let r = (let args = c.args in
    let some_in = c.some_in-g in
    at-is args.m args.i some_in.result _ some_in.ensures.taken _ c.placed_at.ensures _ _ some_in.ensures.held) in
    record { taken = r.0; held = r.1 }
