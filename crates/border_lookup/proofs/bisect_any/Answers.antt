-- `border_lookup::bisect_any` meets its contract. Assumes nothing.
use Rattle.border_lookup.proofs.Laws.{looked-handed}
use Rattle.border_lookup.proofs.bisect_any.Goals as goal

pub returns : goal.returns
returns c =
    let r = looked-handed (c.hand_looked.ensures.value, c.hand_looked.ensures.answer_after) c.bisect_any.ensures in
    record { value = r.0; answer_after = r.1 }
