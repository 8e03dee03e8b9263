-- `lookups::begins` meets its contract. Assumes nothing.
use mathlib.Core.Path.{sym, ◌∙◌}
use Rattle.lookups.proofs.Laws.{first-shut, first_short, first_open}
use Rattle.lookups.proofs.begins.Goals as goal

pub returns-then-room-n : goal.returns-then-room-n
returns-then-room-n c =
    let gate = sym c.bounds.ensures ∙ c.in-Ok.is in
    sym (first_short _ _ _ _ _ _ _ c.longer.ensures c.longer-2.ensures gate c.if-room-n.true)

pub returns-in-Err : goal.returns-in-Err
returns-in-Err c =
    let shut = sym c.bounds.ensures ∙ c.in-Err.is in
    sym (first-shut _ _ _ _ _ _ _ c.longer.ensures c.longer-2.ensures _ shut)

pub returns-else-room-n : goal.returns-else-room-n
returns-else-room-n c =
    let gate = sym c.bounds.ensures ∙ c.in-Ok.is in
    sym (first_open _ _ _ _ _ _ _ c.longer.ensures c.longer-2.ensures gate c.if-room-n.false)
