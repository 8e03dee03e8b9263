-- `mend::mend_with` meets its contract. Assumes nothing.
use native.Mathlib.Omega.{arith}
use mathlib.Core.Path.{refl, sym, ◌∙◌}
use Rattle.mend.proofs.Whole.{first-few, second-few, known_is, need_is, fates_stored, all-is, with_short, with_done, refused_all, eight, sets_of}
use lib.Seq.{length-take-le}
use Rattle.mend.specs.Mend.{fates_of, mended}
use Rattle.ground.specs.Verdict.{verdict}
use Rattle.mend.proofs.mend_with.Goals as goal

pub sorted-m-requires : goal.sorted-m-requires
sorted-m-requires c =
    let args = c.args in
    record { s_len_bound = c.requires.s_len_bound.0; s_in_bounds = first-few args.h args.s.now c.requires.s_len_bound.1 args.count c.requires.s_value args.fates.now args.list.now c.requires.count_in_bounds.1 }

pub slice_bounds-measure-end-2 : goal.slice_bounds-measure-end-2
slice_bounds-measure-end-2 c = sym (length-take-le _ _ c.sorted-m.ensures.0)

pub measure-need-requires : goal.measure-need-requires
measure-need-requires c =
    let args = c.args in
    let sorted = c.sorted-m in
    record { s_len_bound = c.requires.s_len_bound.0; le_h = (c.requires.s_len_bound.1, c.requires.s_len_bound.2); known = known_is args.h args.s.now c.requires.s_len_bound.1 args.count c.requires.s_value args.fates.now _ sorted.ensures.1 }

pub returns-then-out-need : goal.returns-then-out-need
returns-then-out-need c =
    let r = (let args = c.args in
    let sorted = c.sorted-m in
    let measure = c.measure-need in
    let if1 = c.if-out-need in
    let too_short = c.too_short in
    refused_all (verdict 8 measure.result) _ _ (fates_of args.h args.s.now) args.fates.now (mended args.h args.s.now) args.out.now
    too_short.ensures (with_short args.h args.s.now args.count measure.result args.fates.now args.out.now
    (measure.ensures ∙ need_is args.h args.s.now c.requires.s_len_bound.1 args.count c.requires.s_value args.fates.now _ sorted.ensures.1) if1.true)
    (eight measure.result)) in
    record { answer = r.0; fates = r.1.0; out = r.1.1 }

pub slice_bounds-settle-end-2 : goal.slice_bounds-settle-end-2
slice_bounds-settle-end-2 c = sym (length-take-le _ _ c.sorted-m.ensures.0)

pub settle-requires : goal.settle-requires
settle-requires c =
    let args = c.args in
    let sorted = c.sorted-m in
    record { s_len_bound = c.requires.s_len_bound.0; le_h = (c.requires.s_len_bound.1, c.requires.s_len_bound.2); known = known_is args.h args.s.now c.requires.s_len_bound.1 args.count c.requires.s_value args.fates.now _ sorted.ensures.1 }

pub write_sorted-requires : goal.write_sorted-requires
write_sorted-requires c =
    let args = c.args in
    let sorted = c.sorted-m in (
      c.requires.s_len_bound.0,
      second-few args.h args.s.now c.requires.s_len_bound.1 args.count c.requires.s_value args.fates.now _ sorted.new.list
          (omega (arith, sorted.auto.list, c.requires.count_in_bounds.1)),
      omega (arith, sorted.auto.list, c.requires.count_in_bounds.2),
    )

pub returns : goal.returns
returns c =
    let r = (let args = c.args in
    let sorted = c.sorted-m in
    let measure = c.measure-need in
    let if1 = c.if-out-need in
    let settle = c.settle in
    let write-sorted = c.write_sorted in
    let n = measure.ensures ∙ need_is args.h args.s.now c.requires.s_len_bound.1 args.count c.requires.s_value args.fates.now _ sorted.ensures.1 in
    let f = fates_stored args.h args.s.now c.requires.s_len_bound.1 args.count c.requires.s_value args.fates.now _ sorted.ensures.1 c.requires.count_in_bounds.0 _
    settle.ensures.fates_after in
    with_done args.h args.s.now args.count _ args.fates.now args.out.now n if1.false _ _ args.fates.now f
    (write-sorted.ensures ∙ sets_of _ (all-is args.h args.s.now c.requires.s_len_bound.1 args.count c.requires.s_value args.fates.now _ _ f _ refl))) in
    record { answer = r.0; fates = r.1.0; out = r.1.1 }
