-- `listing_text::add_refusal` meets its contract. Assumes nothing.
use Rattle.listing_text.specs.Text.{refusal}
use Rattle.listing_text.proofs.Laws.{added_then}
use Rattle.listing_text.proofs.add_refusal.Goals as goal

pub returns : goal.returns
unfolding refusal
returns c =
    let x = added_then c.add-p.ensures c.add_number-q.ensures.0 in
    added_then (added_then (added_then x c.add-u.ensures) c.add_number-w.ensures.0) c.add.ensures
