-- `seeking::place_in` meets its contract. Assumes nothing.
use native.Mathlib.Omega.{arith}
use Prim.Native.Nat.{◌-◌}
use mathlib.Core.Path.{refl, sym, ◌∙◌}
use Rattle.seeking.specs.Index.{place_in}
use Rattle.seeking.proofs.Halving.{halved_end, halved-below, halved-same, halved_above}
use Rattle.seeking.proofs.place_in.Goals as goal

pub loop-low-init : goal.loop-low-init
unfolding place_in
loop-low-init c = (refl, omega arith)

pub loop-low-preserved-in-Less : goal.loop-low-preserved-in-Less
loop-low-preserved-in-Less c =
    let loop = c.loop-low in
    let loop-test = c.loop-low-test in
    let order-at = c.order_at in
    let enum_told = c.in-Less in
    (loop.invariant.0 ∙ halved-below _ _ _ loop-test.true (sym order-at.ensures ∙ enum_told.is), loop.invariant.1)

pub returns-in-Equal : goal.returns-in-Equal
returns-in-Equal c =
    let loop = c.loop-low in
    let loop-test = c.loop-low-test in
    let order-at = c.order_at in
    let enum-told2 = c.in-Equal in
    sym (loop.invariant.0 ∙ halved-same _ _ _ loop-test.true (sym order-at.ensures ∙ enum-told2.is))

pub loop-low-preserved : goal.loop-low-preserved
loop-low-preserved c =
    let loop = c.loop-low in
    let loop-test = c.loop-low-test in
    let order-at = c.order_at in
    let enum-told3 = c.in-Greater in
    (loop.invariant.0 ∙ halved_above _ _ _ loop-test.true (sym order-at.ensures ∙ enum-told3.is), omega (arith, loop.invariant.1))

pub returns : goal.returns
returns c = sym (c.loop-low.invariant.0 ∙ halved_end _ _ _ c.loop-low-test.false)
