-- `framed::ascending` meets its contract. Assumes nothing.
use native.Mathlib.Omega.{arith}
use Prim.Native.Nat.{ℕ, ◌-◌}
use mathlib.Core.Path.{◌≡◌, sym, ap, ◌∙◌}
use mathlib.Core.List.{[]}
use lib.ListN.{length}
use lib.Dec.{eqb}
use Rattle.frame.specs.Frame.{frames}
use Rattle.frame.proofs.Laws.{frames-end, frames-broken, frames_turn, frame-inside}
use Rattle.twice.specs.Ids.{ids_in}
use Rattle.framed.specs.Ids.{rises}
use Rattle.framed.proofs.Laws.{rises_end, rises-fault, rises_on, rises_off}
use Rattle.framed.proofs.ascending.Goals as goal

pub loop-i-init : goal.loop-i-init
loop-i-init c =
    let args = c.args in
    let z : args.count ≡ args.count - 0 = omega arith in
    (omega arith, omega arith, ap (λ (k : ℕ). rises [] (ids_in args.h args.s.now (frames args.h args.s.now k args.from))) z)

pub returns-in-None : goal.returns-in-None
returns-in-None c =
    let loop = c.loop-i in
    let loop-test = c.loop-i-test in
    let frame_at = c.frame_at in
    let enum_told = c.in-None in
    sym (loop.invariant.2 ∙ rises-fault _ _ _ _ (frames-broken _ _ _ _ (omega arith) (sym frame_at.ensures ∙ enum_told.is)))

pub overflow_add-end : goal.overflow_add-end
overflow_add-end c = omega (arith, frame-inside _ _ _ _ (sym c.frame_at.ensures ∙ c.in-Some.is))

pub slice_bounds-is_below-count-in-Some : goal.slice_bounds-is_below-count-in-Some
slice_bounds-is_below-count-in-Some c = omega (arith, frame-inside _ _ _ _ (sym c.frame_at.ensures ∙ c.in-Some.is))

pub slice_bounds-is_below-start-in-Some : goal.slice_bounds-is_below-start-in-Some
slice_bounds-is_below-start-in-Some c = omega (arith, frame-inside _ _ _ _ (sym c.frame_at.ensures ∙ c.in-Some.is))

pub slice_bounds-is_below-end-in-Some : goal.slice_bounds-is_below-end-in-Some
slice_bounds-is_below-end-in-Some c = omega (arith, frame-inside _ _ _ _ (sym c.frame_at.ensures ∙ c.in-Some.is))

pub loop-i-preserved : goal.loop-i-preserved
loop-i-preserved c =
    let loop = c.loop-i in
    let loop-test = c.loop-i-test in
    let frame_at = c.frame_at in
    let f = c.in-Some in
    let is_below = c.is_below in
    let if1 = c.if-is_below in
    let i = frame-inside _ _ _ _ (sym frame_at.ensures ∙ f.is) in (
      omega arith,
      omega arith,
      loop.invariant.2 ∙ rises_on _ _ _ _ _ _ (frames_turn _ _ _ _ _ loop-test.true (sym frame_at.ensures ∙ f.is))
          (sym is_below.ensures ∙ if1.true),
    )

pub returns-else-is_below : goal.returns-else-is_below
returns-else-is_below c =
    let loop = c.loop-i in
    let loop-test = c.loop-i-test in
    let frame_at = c.frame_at in
    let f = c.in-Some in
    let is_below = c.is_below in
    let if1 = c.if-is_below in
    sym (loop.invariant.2 ∙ rises_off _ _ _ _ _ _ (frames_turn _ _ _ _ _ loop-test.true (sym frame_at.ensures ∙ f.is))
    (sym is_below.ensures ∙ if1.false))

pub returns : goal.returns
returns c =
    let args = c.args in
    let loop = c.loop-i in
    let loop-test = c.loop-i-test in
    sym (loop.invariant.2 ∙ rises_end _ _ _ _ (eqb loop.at (length args.s.now)) (frames-end _ _ _ _ (omega arith)))
