-- `commit_line::id_line` meets its contract. Assumes nothing.
use mathlib.Core.Path.{sym, ◌∙◌}
use native.Mathlib.Omega.{arith}
use Rattle.commit_line.proofs.Laws.{word_fits, id-line-no, id-line-is}
use Rattle.commit_line.proofs.id_line.Goals as goal

pub overflow_add-at : goal.overflow_add-at
overflow_add-at c = omega (arith, word_fits _ _ _ (sym c.word_at.ensures ∙ c.if-word_at.true))

pub overflow_add-at-then-word_at : goal.overflow_add-at-then-word_at
overflow_add-at-then-word_at c = omega (arith, word_fits _ _ _ (sym c.word_at.ensures ∙ c.if-word_at.true))

pub returns-then-word_at : goal.returns-then-word_at
returns-then-word_at c =
    let a = c.args in
    c.id_from.ensures ∙ sym (id-line-is a.word.now a.h a.s.now a.at (sym c.word_at.ensures ∙ c.if-word_at.true))

pub returns-else-word_at : goal.returns-else-word_at
returns-else-word_at c =
    let a = c.args in
    c.if-word_at.false ∙ sym (id-line-no a.word.now a.h a.s.now a.at (sym c.word_at.ensures ∙ c.if-word_at.false))
