-- `border_edit::remove_from_tree` meets its contract. Assumes nothing.
use Rattle.border.proofs.Laws.{handed_with}
use Rattle.border_edit.proofs.remove_from_tree.Goals as goal

pub returns : goal.returns
returns c =
    let r = (let remove_from_tree = c.remove_from_tree in
    handed_with (c.hand.ensures.value, c.hand.ensures.answer_after) remove_from_tree.ensures.answer remove_from_tree.ensures.out) in
    record { value = r.0; answer_after = r.1.0; out_after = r.1.1 }
