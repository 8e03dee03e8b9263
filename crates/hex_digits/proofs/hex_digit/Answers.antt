-- `hex_digits::hex_digit` meets its contract: the constant is computed to be the table of its rule, all 256 entries. Assumes nothing.
use native.Mathlib.Omega.{arith}
use Rattle.hex_digits.specs.Hex.{hex_value}
use Rattle.hex_digits.proofs.Laws.{table_is}
use Rattle.hex_digits.proofs.hex_digit.Goals as goal

pub returns : goal.returns
unfolding hex_value
returns c = table_is c.args.b (omega (arith, c.ranges))
