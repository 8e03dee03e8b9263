-- `hex_of_id::put_hex` meets its contract. Assumes nothing.
use Rattle.std.proofs.Common.{◌≡◌, ◌*◌, drop}
use lib.Seq.{sets}
use Rattle.hex_of_id.specs.Hex.{hex_of}
use Rattle.hex_of_id.proofs.put_hex.Given as goal

abbrev pub invariant-loop-i : goal.invariant-loop-i
invariant-loop-i l = sets l.initial.out 0 (hex_of l.id) ≡ sets l.out (2 * l.i) (hex_of (drop l.i l.id))
