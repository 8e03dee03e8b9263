-- `mode_text::trimmed` meets its contract: each way out is a case of `trimmed`. Assumes nothing.
use borrow.Author.Tests.{eq-eqb, ne_eqb}
use Rattle.mode_text.specs.Write.{trimmed}
use Rattle.mode_text.proofs.trimmed.Goals as goal

pub returns-then-b-ne52 : goal.returns-then-b-ne52
unfolding trimmed
returns-then-b-ne52 c = simp (ne_eqb _ _ c.if-b-ne52.true)

pub returns-then-a-eq48 : goal.returns-then-a-eq48
unfolding trimmed
returns-then-a-eq48 c = simp (eq-eqb _ _ c.if-b-ne52.false, eq-eqb _ _ c.if-a-eq48.true)

pub returns : goal.returns
unfolding trimmed
returns c = simp (eq-eqb _ _ c.if-b-ne52.false, ne_eqb _ _ c.if-a-eq48.false)
