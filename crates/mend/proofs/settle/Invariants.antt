-- `mend::settle` meets its contract. Assumes nothing.
use Rattle.mend_kept.proofs.Walk.{Settling}
use Rattle.mend.proofs.settle.Given as goal

abbrev pub invariant-loop-n : goal.invariant-loop-n
invariant-loop-n l = Settling l.h l.s l.list l.initial.fates l.fates l.c.at l.n l.size
