-- `mode_text::settled` meets its contract: each branch is a case of `settle`. Assumes nothing.
use borrow.Author.Tests.{eq-eqb, ne_eqb}
use Rattle.mode_text.specs.Read.{settle}
use Rattle.mode_text.proofs.settled.Goals as goal

pub returns-then-first-eq48 : goal.returns-then-first-eq48
unfolding settle
returns-then-first-eq48 c = simp (eq-eqb _ _ c.if-v-eq16384.true, eq-eqb _ _ c.if-first-eq48.true)

pub returns-else-first-eq48 : goal.returns-else-first-eq48
unfolding settle
returns-else-first-eq48 c = simp (eq-eqb _ _ c.if-v-eq16384.true, ne_eqb _ _ c.if-first-eq48.false)

pub returns-else-v-eq16384 : goal.returns-else-v-eq16384
unfolding settle
returns-else-v-eq16384 c = simp (ne_eqb _ _ c.if-v-eq16384.false)
