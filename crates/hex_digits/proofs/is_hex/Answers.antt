-- `hex_digits::is_hex` meets its contract. Assumes nothing.
use mathlib.Core.Path.{sym, ◌∙◌}
use native.Mathlib.Omega.{arith}
use lib.ListN.{get_or}
use Rattle.hex_digits.specs.Hex.{hex_value}
use Rattle.hex_digits.proofs.Laws.{table_is, hex-turn, hex-last}
use Rattle.hex_digits.proofs.is_hex.Goals as goal

pub loop-b-preserved : goal.loop-b-preserved
unfolding hex_value
loop-b-preserved c =
    let loop = c.loop-b in
    let t = c.args.t.now in
    loop.invariant ∙ hex-turn t loop.b-index loop.seen _ c.loop-b-test.true (table_is (get_or t loop.b-index 0) (omega (arith, c.type_inv.t loop.b-index)))

pub returns : goal.returns
returns c =
    let loop = c.loop-b in
    let t = c.args.t.now in
    sym (loop.invariant ∙ hex-last t loop.b-index loop.seen c.loop-b-test.false)
