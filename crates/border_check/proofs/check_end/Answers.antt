-- `border_check::check_end` meets its contract. Assumes nothing.
use mathlib.Core.Path.{ap, ◌∙◌}
use Rattle.arriving.specs.Feed.{finish_of}
use Rattle.border.proofs.Laws.{handed}
use Rattle.border_check.proofs.check_end.Goals as goal

pub returns : goal.returns
returns c =
    let r = handed (c.hand.ensures.value, c.hand.ensures.answer_after) (c.finish.ensures ∙ ap finish_of c.marks_said.ensures) in
    record { value = r.0; answer_after = r.1 }
