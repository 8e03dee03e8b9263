-- `doubles::kept` meets its contract. Assumes nothing.
use mathlib.Core.Path.{◌≡◌}
use Rattle.doubles.specs.Stack.{kept_of}
use Rattle.doubles.proofs.kept.Given as goal

abbrev pub invariant-loop-k : goal.invariant-loop-k
invariant-loop-k l = kept_of l.marks l.p l.n ≡ kept_of l.marks l.p l.k
