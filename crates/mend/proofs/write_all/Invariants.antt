-- `mend::write_all` meets its contract. Assumes nothing.
use Rattle.mend_kept.proofs.Bytes.{Writing}
use Rattle.mend.proofs.write_all.Given as goal

abbrev pub invariant-loop-x : goal.invariant-loop-x
invariant-loop-x l = Writing l.h l.s l.list l.initial.out l.out l.x-index l.at
