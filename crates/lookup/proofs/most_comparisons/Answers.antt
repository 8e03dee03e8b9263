-- `lookup::most_comparisons` meets its contract. Assumes nothing.
use mathlib.Core.Path.{refl}
use native.Mathlib.Omega.{arith}
use lib.Count.{leading_le}
use Rattle.lookup.specs.Halving.{most_comparisons}
use Rattle.lookup.proofs.most_comparisons.Goals as goal

pub overflow_cast-result : goal.overflow_cast-result
overflow_cast-result c = omega (arith, leading_le 64 c.args.n)

pub overflow_sub-result : goal.overflow_sub-result
overflow_sub-result c = omega (arith, leading_le 64 c.args.n)

pub returns : goal.returns
unfolding most_comparisons
returns c = refl
