-- `scan::marks_at` meets its contract. Assumes nothing.
use native.Mathlib.Omega.{arith}
use Rattle.scan.proofs.Word.{part_length, word-marks_at}
use Rattle.scan.proofs.marks_at.Goals as goal

pub returns : goal.returns
returns c =
    let args = c.args in
    word-marks_at _ _ args.x _ (part_length args.s.now args.i 8 (omega arith)) (omega arith)
    c.eight.ensures (rw c.from.ensures at c.marks.ensures)
