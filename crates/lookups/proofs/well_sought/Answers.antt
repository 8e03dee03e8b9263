-- `lookups::well_sought` meets its contract. Assumes nothing.
use mathlib.Core.Path.{sym}
use mathlib.Core.Logic.{⊎_elim}
use Rattle.lookups.proofs.Laws.{well_backward, well_outside, well_marked}
use Rattle.lookups.proofs.well_sought.Goals as goal

pub returns-then-q : goal.returns-then-q
returns-then-q c =
    let args = c.args in
    sym (⊎_elim (λ w. well_backward args.len args.q w) (λ w. well_outside args.len args.q w.0 w.1) c.then-q.either)

pub returns : goal.returns
returns c =
    let args = c.args in
    sym (well_marked args.len args.q c.if-q.false c.if-len-q.false)
