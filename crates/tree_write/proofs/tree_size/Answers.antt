-- `tree_write::tree_size` meets its contract. Assumes nothing.
use Rattle.tree_write.proofs.Laws.{size-shut, size_open, within}
use native.Mathlib.Omega.{arith}
use mathlib.Core.Path.{sym, ◌∙◌}
use Rattle.tree_write.proofs.tree_size.Goals as goal

pub measure-requires : goal.measure-requires
measure-requires c =
    let a = c.args in
    within a.h a.bytes.now a.records.now _ (omega arith) (sym c.bounds.ensures ∙ c.in-Ok.is)

pub returns-in-Err : goal.returns-in-Err
returns-in-Err c = sym (size-shut _ _ _ _ (sym c.bounds.ensures ∙ c.in-Err.is))

pub returns-in-Ok : goal.returns-in-Ok
returns-in-Ok c = c.measure.ensures ∙ sym (size_open _ _ _ (sym c.bounds.ensures ∙ c.in-Ok.is))
