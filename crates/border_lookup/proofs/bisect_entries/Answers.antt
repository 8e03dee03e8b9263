-- `border_lookup::bisect_entries` meets its contract. Assumes nothing.
use Rattle.border.proofs.Laws.{handed_with}
use Rattle.border_lookup.proofs.bisect_entries.Goals as goal

pub returns : goal.returns
returns c =
    let r = (let all = c.bisect_entries in
    handed_with (c.hand.ensures.value, c.hand.ensures.answer_after) all.ensures.value all.ensures.answers_after) in
    record { value = r.0; answer_after = r.1.0; answers_after = r.1.1 }
