-- `border_tree_write::tree_size` meets its contract. Assumes nothing.
use Rattle.border.proofs.Laws.{handed}
use Rattle.border_tree_write.proofs.tree_size.Goals as goal

pub returns : goal.returns
returns c =
    let r = handed (c.hand.ensures.value, c.hand.ensures.answer_after) c.tree_size.ensures in
    record { value = r.0; answer_after = r.1 }
