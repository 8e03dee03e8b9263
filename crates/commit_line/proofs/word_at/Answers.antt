-- `commit_line::word_at` meets its contract. Assumes nothing.
use native.Mathlib.Omega.{arith}
use Rattle.std.proofs.lemmas.Grind.{common_steps}
use Rattle.commit_line.proofs.Laws.{word-no, word-is, word-short}
use Rattle.commit_line.proofs.word_at.Goals as goal

pub returns-then-s-at-eq32 : goal.returns-then-s-at-eq32
returns-then-s-at-eq32 c = grind (arith, common_steps, word-is)

pub returns-else-s-at-eq32 : goal.returns-else-s-at-eq32
returns-else-s-at-eq32 c = grind (arith, common_steps, word-no, word-short)
