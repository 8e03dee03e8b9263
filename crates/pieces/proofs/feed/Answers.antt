-- `pieces::feed` meets its contract. Assumes nothing.
use mathlib.Core.Path.{refl, sym, ◌∙◌}
use native.Mathlib.Omega.{arith}
use borrow.Author.Tests.{ltb-true, ltb-false}
use Rattle.std.proofs.lemmas.List.{get_or_read}
use Rattle.piece_takes.proofs.Some.{turn-from, turn_end, turn_step}
use Rattle.pieces.proofs.feed.Goals as goal

pub loop-b-init : goal.loop-b-init
loop-b-init c = (refl, omega arith)

pub whole-t-requires : goal.whole-t-requires
whole-t-requires c = c.loop-b.invariant.1

pub returns-in_default : goal.returns-in_default
returns-in_default c =
    let args = c.args in
    let loop = c.loop-b in
    let whole = c.whole-t in
    let some = c.some-t in
    sym (loop.invariant.0 ∙ turn_end loop.held loop.ends loop.t.marks args.piece.now loop.t.next whole.new.held whole.new.ends
    whole.result (c.whole-t.ensures.took, c.whole-t.ensures.room) some.new.held some.result (c.some-t.ensures.taken, c.some-t.ensures.held)
    (ltb-false _ _ (sym c.in_default.ensures.lookup.0)))

pub loop-b-smaller : goal.loop-b-smaller
loop-b-smaller c =
    let args = c.args in
    let loop = c.loop-b in
    let whole = c.whole-t in
    let some = c.some-t in
    omega (
      arith,
      turn-from loop.held loop.ends loop.t.marks args.piece.now loop.t.next whole.new.held whole.new.ends
          whole.result (c.whole-t.ensures.took, c.whole-t.ensures.room) some.new.held some.result (c.some-t.ensures.taken, c.some-t.ensures.held),
      ltb-true _ _ (sym c.in-Some.ensures.lookup.0),
    )

pub loop-b-preserved : goal.loop-b-preserved
loop-b-preserved c =
    let args = c.args in
    let loop = c.loop-b in
    let whole = c.whole-t in
    let some = c.some-t in
    let left = ltb-true _ _ (sym c.in-Some.ensures.lookup.0) in (
      loop.invariant.0 ∙ turn_step loop.held loop.ends loop.t.marks args.piece.now loop.t.next whole.new.held whole.new.ends
          whole.result (c.whole-t.ensures.took, c.whole-t.ensures.room) some.new.held some.result (c.some-t.ensures.taken, c.some-t.ensures.held) left
          c.step-t.new.held c.step-t.new.ends c.step-t.result (rw (← get_or_read _ _ _ left c.in-Some.ensures.lookup.1 0) c.step-t.ensures),
      omega (arith, left),
    )
