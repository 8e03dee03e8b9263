-- `bundle::tell` meets its contract. Assumes nothing.
use mathlib.Core.Path.{sym}
use Rattle.bundle.proofs.Laws.{told-shut, told_open}
use Rattle.bundle.proofs.tell.Goals as goal

pub returns-in-Err : goal.returns-in-Err
returns-in-Err c = sym (told-shut _ _ c.in-Err.is)

pub returns-in-Ok : goal.returns-in-Ok
returns-in-Ok c = sym (told_open _ _ c.in-Ok.is)
