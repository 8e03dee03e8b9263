-- `differ::main` meets its contract: of the large arrays only their lengths are looked at. Assumes nothing.
use Prim.Native.Nat.{ℕ}
use mathlib.Core.Path.{sym}
use Rattle.std.proofs.lemmas.List.{length-replicate}
use Rattle.differ.proofs.main.Goals as goal

pub slice_bounds-work-end : goal.slice_bounds-work-end
slice_bounds-work-end c = sym (length-replicate {0} {A = ℕ} 2400000 0)

pub slice_bounds-work-end-3 : goal.slice_bounds-work-end-3
slice_bounds-work-end-3 c = sym (length-replicate {0} {A = ℕ} 600000 0)
