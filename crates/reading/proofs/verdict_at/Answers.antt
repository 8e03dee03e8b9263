-- `reading::verdict_at` meets its contract. Assumes nothing.
use mathlib.Core.Path.{sym, ap, ◌∙◌}
use Rattle.entry.specs.Decode.{decoded_verdict}
use Rattle.reading.proofs.verdict_at.Goals as goal

pub returns-in-Ok : goal.returns-in-Ok
returns-in-Ok c =
    let decode = c.decode in
    sym (ap decoded_verdict (sym decode.ensures ∙ c.in-Ok.is))

pub returns-in-Err : goal.returns-in-Err
returns-in-Err c =
    let decode = c.decode in
    sym (ap decoded_verdict (sym decode.ensures ∙ c.in-Err.is))
