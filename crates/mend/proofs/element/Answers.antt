-- `mend::element` meets its contract. Assumes nothing.
use mathlib.Core.Path.{sym, ◌∙◌}
use Rattle.mend_kept.proofs.Walk.{element_folder, element_file, element_plain}
use Rattle.mend.proofs.element.Goals as goal
use Rattle.mend.proofs.element.Goals.{else-second-via-then-second+else-is_folder, else-second-via-else-second}

pub returns-then-is_folder : goal.returns-then-is_folder
returns-then-is_folder c = element_folder _ _ c.if-second.true (sym c.is_folder.ensures ∙ c.if-is_folder.true)

pub returns : goal.returns
returns c =
    elim c.else-second.branch [
      | else-second-via-then-second+else-is_folder w ↦ element_file _ _ w.if-second.true (sym w.is_folder.ensures ∙ w.if-is_folder.false)
      | else-second-via-else-second w ↦ element_plain _ _ w.if-second.false
    ]
