-- `hex_of_id::put_hex` meets its contract. Assumes nothing.
use Rattle.std.proofs.Common.{refl, sym, ap, ◌∙◌, ◌*◌, arith}
use lib.Seq.{sets}
use Rattle.hex_of_id.proofs.Laws.{turn-digits, hex-none}
use Rattle.hex_of_id.proofs.put_hex.Goals as goal

pub loop-i-preserved : goal.loop-i-preserved
loop-i-preserved c =
    let loop = c.loop-i in
    let id = c.args.id.now in
    loop.invariant ∙ turn-digits loop.out id loop.i c.loop-i-test.true (omega (arith, c.type_inv.id loop.i))
    ∙ rw (sym c.digit_of.ensures, sym c.digit_of-in-loop-i.ensures) refl

pub returns : goal.returns
returns c =
    let loop = c.loop-i in
    sym (loop.invariant ∙ ap (sets loop.out (2 * loop.i)) (hex-none c.args.id.now loop.i c.loop-i-test.false))
