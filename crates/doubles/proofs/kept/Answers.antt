-- `doubles::kept` meets its contract. Assumes nothing.
use Prim.Native.Nat.{◌-◌, ◌+◌}
use native.Mathlib.Omega.{arith}
use mathlib.Core.Path.{◌≡◌, refl, sym, ◌∙◌}
use Rattle.doubles.proofs.Stacking.{kept-stays, kept_goes, kept-none}
use Rattle.doubles.proofs.kept.Goals as goal

pub loop-k-init : goal.loop-k-init
loop-k-init c = refl

pub returns-then-marks-k : goal.returns-then-marks-k
returns-then-marks-k c =
    let loop = c.loop-k in
    let back : loop.k - 1 + 1 ≡ loop.k = omega arith in
    back ∙ sym (loop.invariant ∙ kept-stays c.args.marks.now c.args.p loop.k (omega arith) c.if-marks-k.true)

pub loop-k-preserved : goal.loop-k-preserved
loop-k-preserved c =
    let loop = c.loop-k in
    loop.invariant ∙ kept_goes c.args.marks.now c.args.p loop.k (omega arith) c.if-marks-k.false

pub returns : goal.returns
returns c =
    let loop = c.loop-k in
    let none : 0 ≡ loop.k = omega arith in
    none ∙ sym (loop.invariant ∙ kept-none c.args.marks.now c.args.p loop.k c.loop-k-test.false)
