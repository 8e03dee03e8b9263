-- `border_edit::put_in_tree` meets its contract. Assumes nothing.
use Rattle.border.proofs.Laws.{handed_with}
use Rattle.border_edit.proofs.put_in_tree.Goals as goal

pub returns : goal.returns
returns c =
    let r = (let put_in_tree = c.put_in_tree in
    handed_with (c.hand.ensures.value, c.hand.ensures.answer_after) put_in_tree.ensures.answer put_in_tree.ensures.out) in
    record { value = r.0; answer_after = r.1.0; out_after = r.1.1 }
