-- `mend::gather` meets its contract. Assumes nothing.
use Rattle.mend_kept.proofs.Walk.{Gathering}
use Rattle.mend.proofs.gather.Given as goal

abbrev pub invariant-loop-n : goal.invariant-loop-n
invariant-loop-n l = Gathering l.second l.h l.s l.fates l.initial.list l.list l.c.at l.n l.m
