-- `mode_text::octal_of` meets its contract. The loop's invariant: reading the whole is reading the rest after the sum so far. Assumes nothing.
use Prim.Native.Nat.{◌-◌}
use mathlib.Core.Path.{refl, sym, ◌∙◌}
use native.Mathlib.Omega.{arith}
use Rattle.mode_text.proofs.Laws.{octal_digit, octal-low, octal-high, octal_end}
use Rattle.mode_text.proofs.octal_of.Goals as goal

pub loop-n-init : goal.loop-n-init
loop-n-init c = (omega arith, refl)

pub bounds-t-n : goal.bounds-t-n
bounds-t-n c = omega arith

pub returns-then-b-lt48 : goal.returns-then-b-lt48
returns-then-b-lt48 c = sym (c.loop-n.invariant.1 ∙ octal-low _ _ _ c.loop-n-test.true c.if-b-lt48.true)

pub returns-then-b-gt55 : goal.returns-then-b-gt55
returns-then-b-gt55 c =
    let loop = c.loop-n in
    sym (loop.invariant.1 ∙ octal-high _ _ _ c.loop-n-test.true c.if-b-gt55.true)

pub overflow_mul-sum : goal.overflow_mul-sum
overflow_mul-sum c = omega arith

pub overflow_cast-sum : goal.overflow_cast-sum
overflow_cast-sum c = omega arith

pub overflow_add-sum : goal.overflow_add-sum
overflow_add-sum c = omega arith

pub overflow_add-n : goal.overflow_add-n
overflow_add-n c = omega arith

pub loop-n-smaller : goal.loop-n-smaller
loop-n-smaller c = omega arith

pub loop-n-preserved : goal.loop-n-preserved
loop-n-preserved c =
    let loop = c.loop-n in (
      omega arith,
      loop.invariant.1
          ∙ octal_digit _ _ _ c.loop-n-test.true c.if-b-lt48.false c.if-b-gt55.false,
    )

pub returns : goal.returns
returns c = sym (c.loop-n.invariant.1 ∙ octal_end _ _ _ c.loop-n-test.false)
