-- `commit_fields::count_parents` meets its contract. Assumes nothing.
use mathlib.Core.Path.{sym, ◌∙◌}
use native.Mathlib.Omega.{arith}
use Rattle.commit_fields.proofs.Laws.{parents_end, parents-more, parent_fits}
use Rattle.commit_fields.proofs.count_parents.Goals as goal

pub loop-p-init : goal.loop-p-init
loop-p-init c = (omega arith, omega arith)

pub overflow_mul-p : goal.overflow_mul-p
overflow_mul-p c =
    let args = c.args in
    omega (arith, parent_fits args.h args.s.now c.loop-p.p (sym c.parent_at.ensures ∙ c.loop-p-test.true))

pub overflow_add-p : goal.overflow_add-p
overflow_add-p c =
    let args = c.args in
    omega (arith, parent_fits args.h args.s.now c.loop-p.p (sym c.parent_at.ensures ∙ c.loop-p-test.true))

pub overflow_add-p-in-loop-p : goal.overflow_add-p-in-loop-p
overflow_add-p-in-loop-p c =
    let args = c.args in
    omega (arith, parent_fits args.h args.s.now c.loop-p.p (sym c.parent_at.ensures ∙ c.loop-p-test.true))

pub overflow_add-n : goal.overflow_add-n
overflow_add-n c =
    let loop = c.loop-p in
    let args = c.args in
    omega (arith, parent_fits args.h args.s.now loop.p (sym c.parent_at.ensures ∙ c.loop-p-test.true), loop.invariant.0)

pub loop-p-smaller : goal.loop-p-smaller
loop-p-smaller c =
    let args = c.args in
    omega (arith, parent_fits args.h args.s.now c.loop-p.p (sym c.parent_at.ensures ∙ c.loop-p-test.true))

pub loop-p-preserved : goal.loop-p-preserved
loop-p-preserved c =
    let loop = c.loop-p in
    let args = c.args in
    let e = sym c.parent_at.ensures ∙ c.loop-p-test.true in
    let f = parent_fits args.h args.s.now loop.p e in
    let m = parents-more args.h args.s.now loop.p loop.n (omega (arith, f, loop.invariant.0)) e in
    (omega (arith, loop.invariant.0), omega (arith, m, loop.invariant.1))

pub returns : goal.returns
returns c =
    let loop = c.loop-p in
    let args = c.args in
    omega (arith, loop.invariant.1, parents_end args.h args.s.now loop.p loop.n (sym c.parent_at.ensures ∙ c.loop-p-test.false))
