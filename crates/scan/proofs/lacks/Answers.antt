-- `scan::lacks` meets its contract. Assumes nothing.
use mathlib.Core.Bool.{Bool, not, ◌&&◌}
use mathlib.Core.Path.{sym, ap, ◌∙◌}
use lib.Dec.{eqb}
use lib.ListN.{get_or}
use Rattle.scan.proofs.Laws.{free-step}
use Rattle.scan.proofs.lacks.Goals as goal

pub loop-b-preserved : goal.loop-b-preserved
loop-b-preserved c =
    let s = c.args.s.now in
    let k = c.loop-b.b-index in
    ap (λ (v : Bool). v && not (eqb (get_or s k 0) c.args.x)) c.loop-b.invariant ∙ sym (free-step c.args.x s k c.loop-b-test.true)
