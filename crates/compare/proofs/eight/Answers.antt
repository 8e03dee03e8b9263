-- `compare::eight` meets its contract. Assumes nothing.
use native.Mathlib.Omega.{arith}
use Rattle.scan.proofs.Word.{word_eight}
use Rattle.compare.proofs.eight.Goals as goal

pub returns : goal.returns
returns c =
    let args = c.args in
    word_eight args.s.now args.i _ _ (omega arith) c.four-low.ensures.made c.four-high.ensures.made
