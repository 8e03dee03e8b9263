-- `border_tree_write::write_tree` meets its contract. Assumes nothing.
use Rattle.border.proofs.Laws.{handed_with}
use Rattle.border_tree_write.proofs.write_tree.Goals as goal

pub returns : goal.returns
returns c =
    let r = (let write_tree = c.write_tree in
    handed_with (c.hand.ensures.value, c.hand.ensures.answer_after) write_tree.ensures.value write_tree.ensures.out_after) in
    record { value = r.0; answer_after = r.1.0; out_after = r.1.1 }
