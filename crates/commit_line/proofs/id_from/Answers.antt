-- `commit_line::id_from` meets its contract. Assumes nothing.
use native.Mathlib.Omega.{arith}
use Rattle.std.proofs.lemmas.Grind.{common_steps}
use Rattle.commit_line.proofs.Laws.{id-not, id-yes, id-short}
use Rattle.commit_line.proofs.id_from.Goals as goal

pub returns-then-byte_at-eq10 : goal.returns-then-byte_at-eq10
returns-then-byte_at-eq10 c = grind (arith, common_steps, id-yes)

pub returns-else-byte_at-eq10 : goal.returns-else-byte_at-eq10
returns-else-byte_at-eq10 c = grind (arith, common_steps, id-not, id-short)
