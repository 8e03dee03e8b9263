-- `tree_export::measure` meets its contract. Assumes nothing.
use Rattle.tree_export.proofs.Laws.{measured-bad, measured-fine, began_here}
use Rattle.tree_export.proofs.measure.Goals as goal

pub returns-then-number-ne-DONE : goal.returns-then-number-ne-DONE
returns-then-number-ne-DONE c =
    let args = c.args in
    measured-bad args.rules args.h args.bytes.now _ c.settle-verdict.ensures c.if-number-ne-DONE.true

pub walk-count-requires : goal.walk-count-requires
walk-count-requires c = began_here _ _ c.args.bytes.now c.requires

pub returns : goal.returns
returns c =
    let if1 = c.if-number-ne-DONE in
    let walk = c.walk-count in
    let args = c.args in
    measured-fine args.rules args.h args.bytes.now _ c.settle-verdict.ensures if1.false _ walk.ensures.place
