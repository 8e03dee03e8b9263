-- `commit_check::is_id` meets its contract. Assumes nothing.
use native.Mathlib.Omega.{arith}
use Rattle.std.proofs.lemmas.Grind.{common_steps}
use Rattle.commit_check.proofs.Laws.{id-long, id-is}
use Rattle.commit_check.proofs.is_id.Goals as goal

pub returns-then-h-bytes : goal.returns-then-h-bytes
returns-then-h-bytes c = grind (arith, common_steps, id-is)

pub returns-else-h-bytes : goal.returns-else-h-bytes
returns-else-h-bytes c = grind (arith, common_steps, id-long)
