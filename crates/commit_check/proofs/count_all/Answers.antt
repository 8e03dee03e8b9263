-- `commit_check::count_all` meets its contract. Assumes nothing.
use Rattle.commit_check.proofs.Laws.{row-tree, row_parent, row_late}
use mathlib.Core.Path.{sym, ◌∙◌}
use Rattle.commit_check.proofs.count_all.Goals as goal

pub returns-then-not-is_id : goal.returns-then-not-is_id
returns-then-not-is_id c =
    let a = c.args in
    sym (row-tree a.h a.bytes.now a.parts a.parents.now a.headers.now (sym c.is_id.ensures ∙ c.if-not-is_id.true))

pub returns-then-i-parents : goal.returns-then-i-parents
returns-then-i-parents c =
    let a = c.args in
    sym (row_parent a.h a.bytes.now a.parts a.parents.now a.headers.now (sym c.is_id.ensures ∙ c.if-not-is_id.false)
    _ c.count_ids-i.ensures c.if-i-parents.true)

pub returns : goal.returns
returns c =
    let a = c.args in
    sym (row_late a.h a.bytes.now a.parts a.parents.now a.headers.now (sym c.is_id.ensures ∙ c.if-not-is_id.false)
    _ c.count_ids-i.ensures c.if-i-parents.false _ c.count_late.ensures)
