-- `commit_line::value_line` meets its contract. Assumes nothing.
use mathlib.Core.Path.{sym, ◌∙◌}
use native.Mathlib.Omega.{arith}
use Rattle.commit_line.proofs.Laws.{word_fits, line-no, line_open, line-value}
use Rattle.commit_line.proofs.value_line.Goals as goal

pub overflow_add-from : goal.overflow_add-from
overflow_add-from c = omega (arith, word_fits _ _ _ (sym c.word_at.ensures ∙ c.if-not-word_at.false))

pub overflow_add-from-2 : goal.overflow_add-from-2
overflow_add-from-2 c = omega (arith, word_fits _ _ _ (sym c.word_at.ensures ∙ c.if-not-word_at.false))

pub returns-then-not-word_at : goal.returns-then-not-word_at
returns-then-not-word_at c = sym (line-no _ _ _ (sym c.word_at.ensures ∙ c.if-not-word_at.true))

pub returns-then-lf-s : goal.returns-then-lf-s
returns-then-lf-s c =
    let a = c.args in
    sym (line-value a.word.now a.s.now a.at (sym c.word_at.ensures ∙ c.if-not-word_at.false) _ c.find_byte-lf.ensures c.if-lf-s.true)

pub returns-else-lf-s : goal.returns-else-lf-s
returns-else-lf-s c =
    let a = c.args in
    sym (line_open a.word.now a.s.now a.at (sym c.word_at.ensures ∙ c.if-not-word_at.false) _ c.find_byte-lf.ensures c.if-lf-s.false)
