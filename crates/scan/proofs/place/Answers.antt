-- `scan::place` meets its contract. Assumes nothing.
use native.Mathlib.Omega.{arith}
use lib.Count.{trailing_le}
use Rattle.scan.proofs.Word.{word_first}
use Rattle.scan.proofs.place.Goals as goal

pub overflow_cast-result : goal.overflow_cast-result
overflow_cast-result c = omega (arith, trailing_le 64 c.args.m)

pub returns : goal.returns
returns c = record { first = λ bs k p n. word_first bs _ k p n; most = omega (arith, trailing_le 64 c.args.m) }
