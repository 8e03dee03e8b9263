-- `scan::marks` meets its contract. Assumes nothing.
use Prim.Native.Nat.{◌-◌}
use native.Mathlib.Omega.{arith}
use lib.Bits.{bit_or, and_le_r}
use Rattle.scan.proofs.Word.{or_ge, word-marks}
use Rattle.scan.proofs.marks.Goals as goal

pub overflow_sub-result : goal.overflow_sub-result
overflow_sub-result c = omega (arith, or_ge c.args.w 0x8080808080808080)

pub overflow_sub-result-2 : goal.overflow_sub-result-2
overflow_sub-result-2 c = and_le_r (bit_or (bit_or c.args.w 0x8080808080808080 - 0x0101010101010101) c.args.w) 0x8080808080808080

pub returns : goal.returns
returns c = λ bs n p. word-marks bs _ n p
