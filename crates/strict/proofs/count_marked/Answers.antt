-- `strict::count_marked` meets its contract. Assumes nothing.
use Prim.Native.Nat.{◌-◌}
use mathlib.Core.Path.{refl, ap, sym, ◌∙◌}
use Rattle.std.specs.Prelude.{Err}
use Rattle.doubles.specs.declared.Misplaced.{Misplaced}
use Rattle.strict.proofs.Judging.{after_same, seen-kept}
use Rattle.strict.proofs.Strictly.{reading-start, reading_end, reading_full, reading_unseen, reading-low, reading_double, reading-kept}
use Rattle.strict.proofs.Strictly.{decoded_within}
use Rattle.strict.proofs.count_marked.Goals as goal

pub loop-at-init : goal.loop-at-init
loop-at-init c =
    let pre = c.requires in
    (reading-start _ _ _ _ pre, refl)

pub shape_of-marks-then-n-ge-MOST_RECORDS : goal.shape_of-marks-then-n-ge-MOST_RECORDS
shape_of-marks-then-n-ge-MOST_RECORDS c =
    let loop = c.loop-at in
    loop.invariant.1

pub returns-then-n-ge-MOST_RECORDS : goal.returns-then-n-ge-MOST_RECORDS
returns-then-n-ge-MOST_RECORDS c =
    let loop = c.loop-at in
    c.stopped.ensures ∙ reading_full _ _ _ _ _ _ _ _ loop.invariant.0 c.loop-at-test.true c.if-n-ge-MOST_RECORDS.true

pub after_entry-requires : goal.after_entry-requires
after_entry-requires c =
    let e = c.in-Ok in
    let seen_at = c.seen_at in
    let loop = c.loop-at in
    let w = decoded_within _ _ _ _ _ (seen-kept _ _ _ _ _ _ (sym seen_at.ensures ∙ e.is)).0 in
    record { last_within = loop.invariant.0.inside; name_start_bound = (w.1, w.2) }

pub shape_of-marks-in-NotAfter : goal.shape_of-marks-in-NotAfter
shape_of-marks-in-NotAfter c = after_same _ _ _ _ _ c.after_entry.ensures.marks c.loop-at.invariant.1

pub returns-in-NotAfter : goal.returns-in-NotAfter
returns-in-NotAfter c =
    let after-entry = c.after_entry in
    let e = c.in-Ok in
    let seen_at = c.seen_at in
    let if1 = c.if-n-ge-MOST_RECORDS in
    let loop-test = c.loop-at-test in
    let loop = c.loop-at in
    let kept = seen-kept _ _ _ _ _ _ (sym seen_at.ensures ∙ e.is) in
    c.stopped-in-NotAfter.ensures ∙ reading-low _ _ _ _ _ _ _ _ loop.invariant.0 loop-test.true if1.false _ _ 0 kept.0 kept.1 refl _ after-entry.ensures.placed
    (c.in-Err-after_entry.is ∙ ap (λ (m : Misplaced). Err m) c.in-NotAfter.is)

pub shape_of-marks-in-Double : goal.shape_of-marks-in-Double
shape_of-marks-in-Double c = after_same _ _ _ _ _ c.after_entry.ensures.marks c.loop-at.invariant.1

pub returns-in-Double : goal.returns-in-Double
returns-in-Double c =
    let after-entry = c.after_entry in
    let e = c.in-Ok in
    let seen_at = c.seen_at in
    let if1 = c.if-n-ge-MOST_RECORDS in
    let loop-test = c.loop-at-test in
    let loop = c.loop-at in
    let kept = seen-kept _ _ _ _ _ _ (sym seen_at.ensures ∙ e.is) in
    c.stopped-in-Double.ensures ∙ reading_double _ _ _ _ _ _ _ _ loop.invariant.0 loop-test.true if1.false _ _ 0 kept.0 kept.1 refl _ after-entry.ensures.placed
    (c.in-Err-after_entry.is ∙ ap (λ (m : Misplaced). Err m) c.in-Double.is)

pub loop-at-preserved : goal.loop-at-preserved
loop-at-preserved c =
    let after-entry = c.after_entry in
    let e = c.in-Ok in
    let seen_at = c.seen_at in
    let if1 = c.if-n-ge-MOST_RECORDS in
    let loop-test = c.loop-at-test in
    let loop = c.loop-at in
    let kept = seen-kept _ _ _ _ _ _ (sym seen_at.ensures ∙ e.is) in (
      reading-kept _ _ _ _ _ _ _ _ loop.invariant.0 loop-test.true if1.false _ _ 0 kept.0 kept.1 refl _ after-entry.ensures.placed _
          c.in-Ok-after_entry.is _ after-entry.ensures.marks,
      after_same _ _ _ _ _ after-entry.ensures.marks loop.invariant.1,
    )

pub shape_of-marks-in-Err : goal.shape_of-marks-in-Err
shape_of-marks-in-Err c = c.loop-at.invariant.1

pub returns-in-Err : goal.returns-in-Err
returns-in-Err c =
    let seen_at = c.seen_at in
    let if1 = c.if-n-ge-MOST_RECORDS in
    let loop-test = c.loop-at-test in
    let loop = c.loop-at in
    reading_unseen _ _ _ _ _ _ _ _ loop.invariant.0 loop-test.true if1.false _ (sym seen_at.ensures ∙ c.in-Err.is)

pub shape_of-marks : goal.shape_of-marks
shape_of-marks c = c.loop-at.invariant.1

pub returns : goal.returns
returns c = reading_end _ _ _ _ _ _ _ _ c.loop-at.invariant.0 c.loop-at-test.false
