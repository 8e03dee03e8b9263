-- `id_of_hex::put_bytes` meets its contract. Assumes nothing.
use Rattle.std.proofs.Common.{refl, sym, ap, ◌∙◌, ◌*◌, arith}
use lib.Seq.{sets}
use Rattle.id_of_hex.proofs.Laws.{turn_small, turn-hex, turn-bytes, bytes-none}
use Rattle.id_of_hex.proofs.put_bytes.Goals as goal

pub overflow_mul-out : goal.overflow_mul-out
overflow_mul-out c =
    let loop = c.loop-i in
    omega (arith, c.hex_digit-high.ensures, turn_small c.args.digits.now loop.i c.loop-i-test.true loop.invariant.hex)

pub overflow_add-out : goal.overflow_add-out
overflow_add-out c =
    let loop = c.loop-i in
    omega (arith, c.hex_digit-high.ensures, c.hex_digit-low.ensures, turn_small c.args.digits.now loop.i c.loop-i-test.true loop.invariant.hex)

pub loop-i-preserved : goal.loop-i-preserved
loop-i-preserved c =
    let loop = c.loop-i in
    let d = c.args.digits.now in
    let inside = c.loop-i-test.true in
    record {
      hex = turn-hex d loop.i inside loop.invariant.hex;
      put = loop.invariant.put ∙ turn-bytes d loop.i inside loop.invariant.hex loop.out ∙ rw (sym c.hex_digit-high.ensures, sym c.hex_digit-low.ensures) refl;
    }

pub returns : goal.returns
returns c =
    let loop = c.loop-i in
    sym (loop.invariant.put ∙ ap (sets loop.out loop.i) (bytes-none c.args.digits.now (2 * loop.i) (omega (arith, c.loop-i-test.false))))
