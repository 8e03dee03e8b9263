-- `find::main` meets its contract: of the large array only its length is looked at. Assumes nothing.
use Prim.Native.Nat.{ℕ}
use mathlib.Core.Path.{sym}
use Rattle.std.proofs.lemmas.List.{length-replicate}
use Rattle.find.proofs.main.Goals as goal

pub slice_bounds-work-end : goal.slice_bounds-work-end
slice_bounds-work-end c = sym (length-replicate {0} {A = ℕ} 4000000 0)
