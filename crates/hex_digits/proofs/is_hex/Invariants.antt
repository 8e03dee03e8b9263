-- `hex_digits::is_hex` meets its contract. Assumes nothing.
use mathlib.Core.Path.{◌≡◌}
use mathlib.Core.Bool.{◌&&◌}
use lib.Dec.{ltb}
use lib.ListN.{drop}
use Rattle.hex_digits.specs.Hex.{is_hex}
use Rattle.hex_digits.proofs.is_hex.Given as goal

abbrev pub invariant-loop-b : goal.invariant-loop-b
invariant-loop-b l = is_hex l.t ≡ (ltb l.seen 16 && is_hex (drop l.b-index l.t))
