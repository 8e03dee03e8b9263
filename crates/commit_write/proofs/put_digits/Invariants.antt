-- `commit_write::put_digits` meets its contract. Assumes nothing.
use Rattle.std.proofs.Common.{◌+◌, drop}
use Rattle.commit_write.specs.Written.{lower_hex}
use Rattle.commit_write.proofs.Laws.{Left}
use Rattle.commit_write.proofs.put_digits.Given as goal

abbrev pub invariant-loop-i : goal.invariant-loop-i
invariant-loop-i l = Left l.initial.out l.at (lower_hex l.digits) l.out (l.at + l.i) (lower_hex (drop l.i l.digits))
