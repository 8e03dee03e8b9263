-- `probe::start` meets its contract. Assumes nothing.
use mathlib.Core.Path.{sym, ◌∙◌}
use Rattle.probe.proofs.Going.{start_open, start-shut}
use Rattle.probe.proofs.start.Goals as goal

pub returns-in-Ok : goal.returns-in-Ok
returns-in-Ok c =
    let longer = c.longer in
    let bounds = c.bounds in
    c.aimed.ensures ∙ sym (start_open _ _ _ _ _ longer.ensures (sym bounds.ensures ∙ c.in-Ok.is))

pub returns-in-Err : goal.returns-in-Err
returns-in-Err c =
    let longer = c.longer in
    let bounds = c.bounds in
    c.stopped.ensures ∙ sym (start-shut _ _ _ _ _ longer.ensures _ (sym bounds.ensures ∙ c.in-Err.is))
