-- `commit_read::fill_parents` meets its contract. Assumes nothing.
use Rattle.std.proofs.Common.{◌≡◌, ◌+◌, ◌-◌, ◌*◌, ◌<◌}
use Rattle.commit_read.specs.Stored.{stored}
use Rattle.commit_read.proofs.fill_parents.Given as goal

abbrev pub invariant-loop-i : goal.invariant-loop-i
invariant-loop-i l = record {
  inside : l.p + (l.n - l.i) * (8 + 2 * l.h) < 18446744073709551616;
  rest : stored l.h l.initial.out 0 l.at l.n ≡ stored l.h l.out l.i l.p (l.n - l.i);
}
