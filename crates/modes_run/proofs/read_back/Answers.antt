-- `modes_run::read_back` is safe and ends. Assumes nothing.
use native.Mathlib.Omega.{arith}
use lib.ListN.{length-take, length-set}
use Rattle.modes_run.proofs.read_back.Goals as goal

pub slice_bounds-line-end : goal.slice_bounds-line-end
slice_bounds-line-end c = simp length-set (omega arith)

pub slice_bounds-extract_at-end : goal.slice_bounds-extract_at-end
slice_bounds-extract_at-end c = simp (length-take, length-set) (omega arith)
