-- `piece_run::one_entry` meets its contract. Assumes nothing.
use mathlib.Core.Path.{ap, ◌∙◌}
use native.Mathlib.Omega.{arith}
use Rattle.std.specs.Prelude.{Err}
use Rattle.piece_run.proofs.Runs.{seen-inside, more-none, more-fine, more-not, more_double}
use Rattle.piece_run.proofs.one_entry.Goals as goal

pub returns-in_default : goal.returns-in_default
returns-in_default c =
    let x = c.args in
    let r = more-none x.piece.now x.h x.r x.held.now x.ends.now c.in_default.ensures in
    record { run = r.0; held = r.1.0; ends = r.1.1 }

pub slice_bounds-place-count : goal.slice_bounds-place-count
slice_bounds-place-count c = omega (arith, seen-inside c.args.piece.now c.args.r.next c.args.h _ c.in-Some.ensures)

pub slice_bounds-place-start : goal.slice_bounds-place-start
slice_bounds-place-start c = omega (arith, seen-inside c.args.piece.now c.args.r.next c.args.h _ c.in-Some.ensures)

pub slice_bounds-place-end-3 : goal.slice_bounds-place-end-3
slice_bounds-place-end-3 c = omega (arith, seen-inside c.args.piece.now c.args.r.next c.args.h _ c.in-Some.ensures)

pub overflow_add-result : goal.overflow_add-result
overflow_add-result c = omega (arith, seen-inside c.args.piece.now c.args.r.next c.args.h _ c.in-Some.ensures)

pub overflow_add-result-in-Ok : goal.overflow_add-result-in-Ok
overflow_add-result-in-Ok c = omega (arith, seen-inside c.args.piece.now c.args.r.next c.args.h _ c.in-Some.ensures)

pub overflow_sub-result : goal.overflow_sub-result
overflow_sub-result c = omega (arith, seen-inside c.args.piece.now c.args.r.next c.args.h _ c.in-Some.ensures)

pub returns-in-Ok : goal.returns-in-Ok
returns-in-Ok c =
    let x = c.args in
    let r =
    more-fine x.piece.now x.h x.r x.held.now x.ends.now _ c.in-Some.ensures c.place.result _ _
    (c.place.ensures.placed, (c.place.ensures.ends, c.place.ensures.held)) _ c.in-Ok.is in
    record { run = r.0; held = r.1.0; ends = r.1.1 }

pub returns-in-Err-NotAfter : goal.returns-in-Err-NotAfter
returns-in-Err-NotAfter c =
    let x = c.args in
    let r =
    more-not x.piece.now x.h x.r x.held.now x.ends.now _ c.in-Some.ensures c.place.result _ _
    (c.place.ensures.placed, (c.place.ensures.ends, c.place.ensures.held)) (c.in-Err-NotAfter.is ∙ ap Err c.in-Err-NotAfter.field-0-is) in
    record { run = r.0; held = r.1.0; ends = r.1.1 }

pub returns-in-Err-Double : goal.returns-in-Err-Double
returns-in-Err-Double c =
    let x = c.args in
    let r =
    more_double x.piece.now x.h x.r x.held.now x.ends.now _ c.in-Some.ensures c.place.result _ _
    (c.place.ensures.placed, (c.place.ensures.ends, c.place.ensures.held)) (c.in-Err-Double.is ∙ ap Err c.in-Err-Double.field-0-is) in
    record { run = r.0; held = r.1.0; ends = r.1.1 }
