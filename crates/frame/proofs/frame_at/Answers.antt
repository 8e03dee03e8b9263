-- `frame::frame_at` meets its contract. Assumes nothing.
use Rattle.frame.proofs.Laws.{frame-short}
use native.Mathlib.Omega.{arith}
use mathlib.Core.Path.{sym}
use Rattle.frame.proofs.frame_at.Goals as goal

pub returns-then-s-at : goal.returns-then-s-at
returns-then-s-at c = sym (frame-short c.args.s.now c.args.h c.args.at (omega arith))

pub returns-then-s-at-2 : goal.returns-then-s-at-2
returns-then-s-at-2 c =
    let args = c.args in
    sym (frame-short args.s.now args.h args.at (omega arith))

pub returns-then-s-at-lt5 : goal.returns-then-s-at-lt5
returns-then-s-at-lt5 c =
    let args = c.args in
    sym (frame-short args.s.now args.h args.at (omega arith))
