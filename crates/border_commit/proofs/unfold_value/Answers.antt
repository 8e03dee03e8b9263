-- `border_commit::unfold_value` meets its contract. Assumes nothing.
use mathlib.Core.Path.{◌∙◌, ap}
use Rattle.unfold.specs.Unfold.{unfold_answer, unfold_after}
use Rattle.border.proofs.Laws.{handed_with}
use Rattle.border_commit.proofs.unfold_value.Goals as goal

pub returns : goal.returns
returns c =
    let r = (let e = c.«unfold».ensures in
    let x = c.header_at-x.ensures in
    let a = c.args in
    handed_with (c.hand.ensures.value, c.hand.ensures.answer_after) (e.answer ∙ ap (λ r. unfold_answer a.bytes.now r a.out.now) x)
    (e.out ∙ ap (λ r. unfold_after a.bytes.now r a.out.now) x)) in
    record { value = r.0; answer_after = r.1.0; out_after = r.1.1 }
