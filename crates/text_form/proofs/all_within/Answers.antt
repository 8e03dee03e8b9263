-- `text_form::all_within` meets its contract. Assumes nothing.
use native.Mathlib.Omega.{arith}
use Prim.Native.Nat.{◌-◌}
use mathlib.Core.Path.{refl, sym, ◌∙◌}
use Rattle.text_form.proofs.Laws.{all_end, all_more, all_not}
use Rattle.text_form.proofs.all_within.Goals as goal

pub loop-i-init : goal.loop-i-init
loop-i-init c = (omega arith, refl)

pub loop-i-preserved : goal.loop-i-preserved
loop-i-preserved c =
    let loop = c.loop-i in
    let args = c.args in
    let loop-test = c.loop-i-test in
    let within = c.within in
    let if1 = c.if-within in
    (omega arith, loop.invariant.1 ∙ all_more _ _ _ _ args.t.now loop.i loop-test.true (sym within.ensures ∙ if1.true))

pub returns-else-within : goal.returns-else-within
returns-else-within c =
    let loop = c.loop-i in
    let args = c.args in
    let loop-test = c.loop-i-test in
    let within = c.within in
    let if1 = c.if-within in
    sym (loop.invariant.1 ∙ all_not _ _ _ _ args.t.now loop.i loop-test.true (sym within.ensures ∙ if1.false))

pub returns : goal.returns
returns c =
    let loop = c.loop-i in
    let args = c.args in
    let loop-test = c.loop-i-test in
    sym (loop.invariant.1 ∙ all_end _ _ _ _ args.t.now loop.i loop-test.false)
