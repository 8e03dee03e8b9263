-- `text_repeats::least_repeat` meets its contract. Assumes nothing.
use Prim.Native.Nat.{◌-◌}
use native.Mathlib.Omega.{arith}
use mathlib.Core.Path.{refl, sym, ◌∙◌}
use Rattle.text_repeats.specs.Least.{same_record}
use Rattle.text_repeats.proofs.Laws.{least_end, least_on}
use Rattle.text_repeats.proofs.least_repeat.Goals as goal

pub loop-i-init : goal.loop-i-init
loop-i-init c = (omega arith, refl)

pub loop-i-preserved : goal.loop-i-preserved
loop-i-preserved c =
    let args = c.args in
    let loop = c.loop-i in
    let loop-test = c.loop-i-test in
    let repeat-here = c.repeat_here-least in
    (omega arith, loop.invariant.1 ∙ least_on (same_record args.text.now) args.list.now _ _ loop.invariant.0 loop-test.true repeat-here.ensures)

pub returns : goal.returns
returns c =
    let args = c.args in
    let loop = c.loop-i in
    let loop-test = c.loop-i-test in
    sym (loop.invariant.1 ∙ least_end (same_record args.text.now) args.list.now _ _ loop.invariant.0 loop-test.false)
