-- `text_form::between` meets its contract. Assumes nothing.
use mathlib.Core.Path.{sym}
use Rattle.text_form.proofs.Laws.{between-low, between-rest}
use Rattle.text_form.proofs.between.Goals as goal

pub returns-then-x-a : goal.returns-then-x-a
returns-then-x-a c = sym (between-low _ _ _ c.if-x-a.true)

pub returns : goal.returns
returns c = sym (between-rest _ _ _ c.if-x-a.false)
