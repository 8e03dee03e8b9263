-- `lookups::each` meets its contract: the verdict and the stored answers from the start are those from here. Assumes nothing.
use Prim.Native.Nat.{◌-◌}
use mathlib.Core.Path.{refl, sym, ◌∙◌}
use native.Mathlib.Omega.{arith}
use Rattle.lookups.proofs.Laws.{bad_end, bad-here, bad-next, kept-end, kept_next}
use Rattle.lookups.proofs.each.Goals as goal

pub loop-i-init : goal.loop-i-init
loop-i-init c = (refl, refl, refl)

pub sought_at-q-requires : goal.sought_at-q-requires
sought_at-q-requires c = omega arith

pub shape_of-answers-then-a-eq-BAD_RECORD : goal.shape_of-answers-then-a-eq-BAD_RECORD
shape_of-answers-then-a-eq-BAD_RECORD c = c.loop-i.invariant.0

pub returns-then-a-eq-BAD_RECORD : goal.returns-then-a-eq-BAD_RECORD
returns-then-a-eq-BAD_RECORD c =
    let loop = c.loop-i in
    let read = c.sought_at-q.ensures in
    let looked = c.look-a.ensures in
    record { value = sym (loop.invariant.1 ∙ bad-here _ _ _ c.loop-i-test.true _ read _ looked c.if-a-eq-BAD_RECORD.true); answers_after = λ z. absurd (omega arith) }

pub put_answer-requires : goal.put_answer-requires
put_answer-requires c =
    let loop = c.loop-i in
    let more = c.loop-i-test.true in
    let room = c.requires in
    λ l. omega (arith, loop.invariant.0, room loop.i more (omega (arith, loop.invariant.0)))

pub loop-i-preserved : goal.loop-i-preserved
loop-i-preserved c =
    let loop = c.loop-i in
    let more = c.loop-i-test.true in
    let read = c.sought_at-q.ensures in
    let looked = c.look-a.ensures in
    let fine = c.if-a-eq-BAD_RECORD.false in
    let put = c.put_answer in (
      put.auto.answers ∙ loop.invariant.0,
      loop.invariant.1 ∙ bad-next _ _ _ more _ read _ looked fine,
      loop.invariant.2 ∙ kept_next _ _ _ more _ read _ looked _ _ put.ensures,
    )

pub shape_of-answers : goal.shape_of-answers
shape_of-answers c = c.loop-i.invariant.0

pub returns : goal.returns
returns c =
    let loop = c.loop-i in
    let sought = c.args.sought.now in
    let past = c.loop-i-test.false in
    record { value = sym (loop.invariant.1 ∙ bad_end _ sought loop.i past); answers_after = λ z. sym (loop.invariant.2 ∙ kept-end _ sought loop.i loop.answers past) }
