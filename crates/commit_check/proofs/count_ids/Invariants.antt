-- `commit_check::count_ids` meets its contract. Assumes nothing.
use Rattle.std.proofs.Common.{◌≡◌, ◌+◌, drop}
use mathlib.Core.List.{map}
use Rattle.commit_check.specs.Check.{passing, id_fits}
use Rattle.commit_check.proofs.count_ids.Given as goal

abbrev pub invariant-loop-i : goal.invariant-loop-i
invariant-loop-i l = passing (map (id_fits l.h l.bytes) l.parents) ≡ l.i + passing (map (id_fits l.h l.bytes) (drop l.i l.parents))
