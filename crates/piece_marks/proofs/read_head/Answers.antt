-- `piece_marks::read_head` meets its contract. Assumes nothing.
use native.Mathlib.Omega.{arith}
use mathlib.Core.Path.{sym}
use lib.Seq.{length-take-le}
use Rattle.arriving.proofs.Laws.{read-cut}
use Rattle.piece_marks.proofs.read_head.Goals as goal

pub slice_bounds-extract_at-end : goal.slice_bounds-extract_at-end
slice_bounds-extract_at-end c = sym (length-take-le _ _ (omega (arith, c.shorter-n.ensures)))

pub returns : goal.returns
returns c =
    let args = c.args in
    let shorter = c.shorter-n in
    let extract-at = c.extract_at in
    read-cut args.head args.k _ _ shorter.ensures (omega arith) extract-at.ensures
