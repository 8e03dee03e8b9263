-- `id_of_hex::put_bytes` meets its contract. Assumes nothing.
use Rattle.std.proofs.Common.{◌≡◌, ◌*◌, true, drop}
use lib.Seq.{sets}
use Rattle.hex_digits.specs.Hex.{is_hex}
use Rattle.id_of_hex.specs.Id.{bytes_of}
use Rattle.id_of_hex.proofs.put_bytes.Given as goal

abbrev pub invariant-loop-i : goal.invariant-loop-i
invariant-loop-i l = record {
  hex : is_hex (drop (2 * l.i) l.digits) ≡ true;
  put : sets l.initial.out 0 (bytes_of l.digits) ≡ sets l.out l.i (bytes_of (drop (2 * l.i) l.digits));
}
