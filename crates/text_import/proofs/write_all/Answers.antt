-- `text_import::write_all` meets its contract. Assumes nothing.
use native.Mathlib.Omega.{arith}
use Prim.Native.Nat.{◌-◌}
use Rattle.text_import.proofs.Bytes.{writing_start, writing_end, writing-place, writing-turn}
use Rattle.text_import.proofs.write_all.Goals as goal

pub loop-x-init : goal.loop-x-init
loop-x-init c = writing_start _ _ _ _ _

pub slice_bounds-write_one-count : goal.slice_bounds-write_one-count
slice_bounds-write_one-count c =
    let loop = c.loop-x in
    let loop-test = c.loop-x-test in
    let place_of = c.place_of-place in
    (writing-place _ _ _ _ _ _ _ _ loop.invariant c.requires.all_read loop-test.true c.requires.text_len_bound.0 place_of.ensures).0

pub slice_bounds-write_one-start : goal.slice_bounds-write_one-start
slice_bounds-write_one-start c =
    let loop = c.loop-x in
    let loop-test = c.loop-x-test in
    let place_of = c.place_of-place in
    (writing-place _ _ _ _ _ _ _ _ loop.invariant c.requires.all_read loop-test.true c.requires.text_len_bound.0 place_of.ensures).0

pub write_one-at-requires : goal.write_one-at-requires
write_one-at-requires c =
    let loop = c.loop-x in
    let loop-test = c.loop-x-test in
    let place_of = c.place_of-place in
    let w = writing-place _ _ _ _ _ _ _ _ loop.invariant c.requires.all_read loop-test.true c.requires.text_len_bound.0 place_of.ensures in
    record { b_value = (w.1, c.requires.text_len_bound.1); at_bound = (omega (arith, loop.invariant.few, loop.invariant.inside, c.requires.text_len_bound.2), w.2) }

pub loop-x-preserved : goal.loop-x-preserved
loop-x-preserved c =
    let loop = c.loop-x in
    let loop-test = c.loop-x-test in
    let place_of = c.place_of-place in
    let write-one = c.write_one-at in
    writing-turn _ _ _ _ _ _ _ _ loop.invariant c.requires.all_read loop-test.true c.requires.text_len_bound.0 place_of.ensures _ _ write-one.auto.out write-one.ensures.value
    write-one.ensures.out_after

pub shape_of-out : goal.shape_of-out
shape_of-out c = c.loop-x.invariant.size

pub returns : goal.returns
returns c =
    let r = writing_end _ _ _ _ _ _ _ _ c.loop-x.invariant c.loop-x-test.false in
    record { value = r.0; out_after = r.1 }
