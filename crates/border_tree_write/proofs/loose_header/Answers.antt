-- `border_tree_write::loose_header` meets its contract. Assumes nothing.
use Rattle.border.proofs.Laws.{handed_with}
use Rattle.border_tree_write.proofs.loose_header.Goals as goal

pub returns : goal.returns
returns c =
    let r = (let loose_header = c.loose_header in
    handed_with (c.hand.ensures.value, c.hand.ensures.answer_after) loose_header.ensures.value loose_header.ensures.out_after) in
    record { value = r.0; answer_after = r.1.0; out_after = r.1.1 }
