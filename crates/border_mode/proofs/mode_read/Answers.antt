-- `border_mode::mode_read` meets its contract. Assumes nothing.
use Rattle.border_mode.proofs.Laws.{mode-handed}
use Rattle.border_mode.proofs.mode_read.Goals as goal

pub returns : goal.returns
returns c =
    let r = mode-handed (c.hand_mode.ensures.value, c.hand_mode.ensures.answer_after) c.from_bytes.ensures in
    record { value = r.0; answer_after = r.1 }
