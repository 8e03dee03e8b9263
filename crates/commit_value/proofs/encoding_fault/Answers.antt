-- `commit_value::encoding_fault` meets its contract. Assumes nothing.
use native.Mathlib.Omega.{arith}
use Rattle.std.proofs.lemmas.Grind.{common_steps}
use Rattle.commit_value.proofs.Laws.{fault-empty, fault-none, fault-lf}
use Rattle.commit_value.proofs.encoding_fault.Goals as goal

pub returns-then-is_empty : goal.returns-then-is_empty
returns-then-is_empty c = grind (arith, common_steps, fault-empty)

pub returns-then-count_to-v : goal.returns-then-count_to-v
returns-then-count_to-v c = grind (arith, common_steps, fault-none)

pub returns : goal.returns
returns c = grind (arith, common_steps, fault-lf)
