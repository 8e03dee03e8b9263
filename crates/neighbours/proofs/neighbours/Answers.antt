-- `neighbours::neighbours` meets its contract. Assumes nothing.
use native.Mathlib.Omega.{arith}
use Prim.Native.Nat.{◌-◌}
use mathlib.Core.Path.{sym, ap, ◌∙◌}
use Rattle.sorting.specs.Repeats.{touches}
use Rattle.neighbours.specs.Sorted.{same_short}
use Rattle.neighbours.proofs.Laws.{most-is, touch_none, touch_here, touch_on}
use Rattle.neighbours.proofs.neighbours.Goals as goal

pub loop-i-init : goal.loop-i-init
loop-i-init c =
    let args = c.args in
    let shorter = c.shorter-most in
    (omega arith, ap (touches (same_short args.s.now args.h)) (most-is args.n _ args.list.now shorter.ensures))

pub returns-then-same_ids : goal.returns-then-same_ids
returns-then-same_ids c =
    let args = c.args in
    let shorter = c.shorter-most in
    let loop = c.loop-i in
    let loop-test = c.loop-i-test in
    let same-ids = c.same_ids in
    let if1 = c.if-same_ids in
    sym (loop.invariant.1 ∙ touch_here (same_short args.s.now args.h) _ _ (omega (arith, shorter.ensures)) _ loop.invariant.0 loop-test.true
    (sym same-ids.ensures ∙ if1.true))

pub loop-i-preserved : goal.loop-i-preserved
loop-i-preserved c =
    let args = c.args in
    let shorter = c.shorter-most in
    let loop = c.loop-i in
    let loop-test = c.loop-i-test in
    let same-ids = c.same_ids in
    let if1 = c.if-same_ids in (
      omega arith,
      loop.invariant.1 ∙ touch_on (same_short args.s.now args.h) _ _ (omega (arith, shorter.ensures)) _ loop.invariant.0 loop-test.true
          (sym same-ids.ensures ∙ if1.false),
    )

pub returns : goal.returns
returns c =
    let args = c.args in
    let shorter = c.shorter-most in
    let loop = c.loop-i in
    let loop-test = c.loop-i-test in
    sym (loop.invariant.1 ∙ touch_none (same_short args.s.now args.h) _ _ (omega (arith, shorter.ensures)) _ loop.invariant.0 loop-test.false)
