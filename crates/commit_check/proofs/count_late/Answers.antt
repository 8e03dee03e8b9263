-- `commit_check::count_late` meets its contract. Assumes nothing.
use Rattle.commit_check.proofs.Laws.{late_author, late_committer, late_on}
use mathlib.Core.Path.{sym, ◌∙◌}
use Rattle.commit_check.proofs.count_late.Goals as goal

pub returns-then-not-is_range : goal.returns-then-not-is_range
returns-then-not-is_range c =
    let a = c.args in
    sym (late_author a.bytes.now a.parts a.headers.now a.before (sym c.is_range.ensures ∙ c.if-not-is_range.true))

pub returns-then-not-is_range-2 : goal.returns-then-not-is_range-2
returns-then-not-is_range-2 c =
    let a = c.args in
    sym (late_committer a.bytes.now a.parts a.headers.now a.before (sym c.is_range.ensures ∙ c.if-not-is_range.false)
    (sym c.is_range-2.ensures ∙ c.if-not-is_range-2.true))

pub returns : goal.returns
returns c =
    let a = c.args in
    sym (late_on a.bytes.now a.parts a.headers.now a.before (sym c.is_range.ensures ∙ c.if-not-is_range.false)
    (sym c.is_range-2.ensures ∙ c.if-not-is_range-2.false) _ c.count_last.ensures)
