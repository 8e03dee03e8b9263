-- `mode_code::six_code` meets its contract. Assumes nothing.
use Rattle.mode_code.specs.Quad.{six_of}
use Rattle.mode_code.proofs.six_code.Goals as goal

pub returns-then-a-b : goal.returns-then-a-b
unfolding six_of
returns-then-a-b c = rw c.if-a-b.true

pub returns-then-a-b-2 : goal.returns-then-a-b-2
unfolding six_of
returns-then-a-b-2 c = rw (c.if-a-b.false, c.if-a-b-2.true)

pub returns-then-a-b-3 : goal.returns-then-a-b-3
unfolding six_of
returns-then-a-b-3 c = rw (c.if-a-b.false, c.if-a-b-2.false, c.if-a-b-3.true)

pub returns-then-a-b-4 : goal.returns-then-a-b-4
unfolding six_of
returns-then-a-b-4 c = rw (c.if-a-b.false, c.if-a-b-2.false, c.if-a-b-3.false, c.if-a-b-4.true)

pub returns : goal.returns
unfolding six_of
returns c = rw (c.if-a-b.false, c.if-a-b-2.false, c.if-a-b-3.false, c.if-a-b-4.false)
