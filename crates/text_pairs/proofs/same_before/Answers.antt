-- `text_pairs::same_before` meets its contract. Assumes nothing.
use native.Mathlib.Omega.{arith}
use mathlib.Core.Path.{◌∙◌}
use borrow.Author.Tests.{le-ltb}
use Rattle.text_pairs.proofs.Laws.{before-none, before-some}
use Rattle.text_pairs.proofs.same_before.Goals as goal

pub returns-then-i-gt0 : goal.returns-then-i-gt0
returns-then-i-gt0 c = before-some _ _ _ _ (λ z. omega (arith, z)) c.same_at.ensures

pub returns-else-i-gt0 : goal.returns-else-i-gt0
returns-else-i-gt0 c = le-ltb _ _ c.if-i-gt0.false ∙ before-none _ _ _ _ (omega arith)
