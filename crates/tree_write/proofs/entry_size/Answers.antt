-- `tree_write::entry_size` meets its contract. Assumes nothing.
use Rattle.tree_write.specs.Write.{entry_size}
use native.Mathlib.Omega.{arith}
use Rattle.tree_write.proofs.entry_size.Goals as goal

pub returns : goal.returns
unfolding entry_size
returns c = omega arith
