-- `piece_step::step` meets its contract. Assumes nothing.
use native.Mathlib.Omega.{arith}
use Rattle.arriving.specs.Feed.{together}
use Rattle.arriving.proofs.Laws.{step_stopped, step_past, step-first, step-past_mode}
use Rattle.piece_body.proofs.Laws.{within}
use Rattle.piece_first.proofs.Laws as first
use Rattle.piece_step.proofs.step.Goals as goal

pub returns-then-m-ne-DONE : goal.returns-then-m-ne-DONE
returns-then-m-ne-DONE c =
    let args = c.args in
    step_stopped args.held.now args.ends.now args.m args.b c.if-m-ne-DONE.true

pub returns-then-m-ge-MOST_BYTES : goal.returns-then-m-ge-MOST_BYTES
returns-then-m-ge-MOST_BYTES c =
    let args = c.args in
    let if1 = c.if-m-ne-DONE in
    step_past args.held.now args.ends.now args.m args.b if1.false _ c.if-m-ge-MOST_BYTES.true c.over.ensures

pub returns-in-Head : goal.returns-in-Head
returns-in-Head c =
    let args = c.args in
    let if1 = c.if-m-ne-DONE in
    let if2 = c.if-m-ge-MOST_BYTES in
    let phase = c.in-Head in
    step-first args.held.now args.ends.now args.m args.b if1.false if2.false _ _ phase.is
    (first.within (together args.held.now args.ends.now args.m) _ args.b if2.false c.first_byte.ensures)

pub returns-in-Name : goal.returns-in-Name
returns-in-Name c =
    let args = c.args in
    let if1 = c.if-m-ne-DONE in
    let if2 = c.if-m-ge-MOST_BYTES in
    step-past_mode args.held.now args.ends.now args.m args.b if1.false if2.false _ c.in-Name.is
    (within (together args.held.now args.ends.now args.m) args.b (omega (arith, if2.false)) c.body_within.ensures)
