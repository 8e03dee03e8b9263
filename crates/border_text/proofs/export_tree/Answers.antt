-- `border_text::export_tree` meets its contract. Assumes nothing.
use Rattle.border.proofs.Laws.{handed_with}
use Rattle.border_text.proofs.export_tree.Goals as goal

pub returns : goal.returns
returns c =
    let r = (let work = c.export_tree in
    handed_with (c.hand.ensures.value, c.hand.ensures.answer_after) work.ensures.answer work.ensures.out) in
    record { value = r.0; answer_after = r.1.0; out_after = r.1.1 }
