-- `border_difference::compare_trees` meets its contract. Assumes nothing.
use Rattle.border.proofs.Laws.{handed}
use Rattle.border_difference.proofs.compare_trees.Goals as goal

pub returns : goal.returns
returns c =
    let work = c.compare_trees.ensures in
    let r = handed (c.hand.ensures.value, c.hand.ensures.answer_after) work.answer in
    record { value = r.0; answer_after = r.1; after = work.items; paths_after = work.paths }
