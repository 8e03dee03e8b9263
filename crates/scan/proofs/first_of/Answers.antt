-- `scan::first_of` meets its contract. Assumes nothing.
use Prim.Native.Nat.{◌+◌, ◌-◌, ◌*◌}
use mathlib.Core.Path.{sym, ap, ◌∙◌}
use native.Mathlib.Omega.{arith}
use Rattle.ground.specs.Scan.{place_from}
use Rattle.ground.proofs.Laws.{place-from}
use Rattle.scan.proofs.Laws.{place-past, place_in, place-among}
use Rattle.scan.proofs.first_of.Goals as goal

pub overflow_sub-last : goal.overflow_sub-last
overflow_sub-last c = omega (arith, c.requires.found, place-from c.args.x c.args.s.now c.args.from)

pub returns-then-m-ne0 : goal.returns-then-m-ne0
returns-then-m-ne0 c =
    let a = c.args in
    sym (c.loop-k.invariant ∙ place_in a.x a.s.now (a.from + 8 * c.loop-k.k) _ (omega arith) c.marks_at-m.ensures _ c.place.ensures.first c.if-m-ne0.true)

pub loop-k-preserved : goal.loop-k-preserved
loop-k-preserved c =
    let a = c.args in
    c.loop-k.invariant ∙ place-past a.x a.s.now (a.from + 8 * c.loop-k.k) _ (omega arith) c.marks_at-m.ensures _ c.if-m-ne0.false (omega arith)

pub marks_at-requires : goal.marks_at-requires
marks_at-requires c = omega (arith, c.requires.found, c.requires.in_bounds, place-from c.args.x c.args.s.now c.args.from)

pub returns : goal.returns
returns c =
    let a = c.args in
    let i = a.from + 8 * (a.words - 1) in
    let some = place-from a.x a.s.now a.from in
    let e = c.loop-k.invariant ∙ ap (λ k. place_from a.x a.s.now (a.from + 8 * k)) (omega (arith, c.requires.found, some, c.loop-k-test.false)) in
    sym (e ∙ place-among a.x a.s.now i _ (omega (arith, c.requires.found, c.requires.in_bounds, some)) c.marks_at.ensures _ c.place-2.ensures.first
    (omega (arith, c.requires.found, some, e)))
