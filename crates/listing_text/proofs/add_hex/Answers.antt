-- `listing_text::add_hex` meets its contract. Assumes nothing.
use native.Mathlib.Omega.{arith}
use mathlib.Core.Path.{refl, ◌∙◌}
use Prim.Native.Nat.{◌-◌}
use Rattle.hex_of_id.proofs.Laws.{hex-none}
use Rattle.listing_text.proofs.Laws.{rest_all, hex-turn, rest-none}
use Rattle.listing_text.proofs.add_hex.Goals as goal

pub loop-b-init : goal.loop-b-init
loop-b-init c = (refl, omega arith, omega arith, rest_all _ _ _)

pub loop-b-preserved : goal.loop-b-preserved
loop-b-preserved c =
    let l = c.loop-b in
    let e = c.add-p.ensures in (
      c.add-p.auto.out ∙ l.invariant.0,
      omega arith,
      omega (arith, e.place, l.invariant.2),
      hex-turn c.args.bytes.now
          l.b-index c.loop-b-test.true (omega (arith, c.type_inv.bytes l.b-index)) l.invariant.3
          c.digit_of.ensures c.digit_of-in-loop-b.ensures e,
    )

pub shape_of-out : goal.shape_of-out
shape_of-out c = c.loop-b.invariant.0

pub returns : goal.returns
returns c =
    let l = c.loop-b in
    (rest-none l.invariant.3 (hex-none c.args.bytes.now l.b-index c.loop-b-test.false), omega (arith, l.invariant.1, l.invariant.2, c.requires.1))
