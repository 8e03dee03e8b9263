-- `piece_some::some` meets its contract. Assumes nothing.
use native.Mathlib.Omega.{arith}
use Rattle.piece_some.proofs.Bytes.{some-rest, some-none, some-some}
use Rattle.piece_some.proofs.some.Goals as goal

pub returns-then-m-ne-DONE : goal.returns-then-m-ne-DONE
returns-then-m-ne-DONE c =
    let r = some-rest c.args.held.now c.args.m c.args.piece.now c.args.i c.if-m-ne-DONE.true in
    record { taken = r.0; held = r.1 }

pub returns-then-most-eq0 : goal.returns-then-most-eq0
returns-then-most-eq0 c =
    let x = c.args in
    let r =
    some-none x.held.now x.m x.piece.now x.i c.if-m-ne-DONE.false _
    (omega (arith, c.min-most.ensures, c.saturating_sub.ensures, c.saturating_sub-2.ensures)) c.if-most-eq0.true in
    record { taken = r.0; held = r.1 }

pub returns : goal.returns
returns c =
    let x = c.args in
    let r =
    some-some x.held.now x.m x.piece.now x.i c.if-m-ne-DONE.false _
    (omega (arith, c.min-most.ensures, c.saturating_sub.ensures, c.saturating_sub-2.ensures)) c.if-most-eq0.false _ _
    (c.some_at.ensures.taken, c.some_at.ensures.held) in
    record { taken = r.0; held = r.1 }
