-- `border_hex::hex_of_id` meets its contract. Assumes nothing.
use Rattle.border.proofs.Laws.{handed_with}
use Rattle.border_hex.proofs.hex_of_id.Goals as goal

pub returns : goal.returns
returns c =
    let r = (let work = c.hex_of_id in
    handed_with (c.hand.ensures.value, c.hand.ensures.answer_after) work.ensures.value work.ensures.out_after) in
    record { value = r.0; answer_after = r.1.0; out_after = r.1.1 }
