-- `border_tree::read_tree` meets its contract. Assumes nothing.
use Rattle.border.proofs.Laws.{handed_with}
use Rattle.border_tree.proofs.read_tree.Goals as goal

pub returns : goal.returns
returns c =
    let r = (let read_tree = c.read_tree in
    handed_with (c.hand.ensures.value, c.hand.ensures.answer_after) read_tree.ensures.answer read_tree.ensures.records) in
    record { value = r.0; answer_after = r.1.0; records_after = r.1.1 }
