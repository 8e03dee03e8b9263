-- `finding::find_from` meets its contract. Assumes nothing.
use native.Mathlib.Omega.{arith}
use Prim.Native.Nat.{ℕ, ◌-◌}
use mathlib.Core.Path.{◌≡◌, sym, ap, ◌∙◌}
use lib.ListN.{length}
use lib.Dec.{eqb}
use Rattle.frame.specs.Frame.{frames}
use Rattle.frame.specs.Place.{first_of}
use Rattle.frame.proofs.Laws.{frames-end, frames-broken, frames_turn, frame-inside, first-end, first-fault, first-here, first_on}
use Rattle.finding.proofs.find_from.Goals as goal

pub loop-i-init : goal.loop-i-init
loop-i-init c =
    let args = c.args in
    let z : args.count ≡ args.count - 0 = omega arith in
    ap (λ (k : ℕ). first_of args.h args.s.now args.id.now (frames args.h args.s.now k args.from)) z

pub returns-in-None : goal.returns-in-None
returns-in-None c =
    let loop = c.loop-i in
    let loop-test = c.loop-i-test in
    let frame_at = c.frame_at in
    let enum_told = c.in-None in
    sym (loop.invariant ∙ first-fault _ _ _ _ (frames-broken _ _ _ _ (omega arith) (sym frame_at.ensures ∙ enum_told.is)))

pub overflow_add-end : goal.overflow_add-end
overflow_add-end c = omega (arith, frame-inside _ _ _ _ (sym c.frame_at.ensures ∙ c.in-Some.is))

pub slice_bounds-same_bytes-count : goal.slice_bounds-same_bytes-count
slice_bounds-same_bytes-count c = omega (arith, frame-inside _ _ _ _ (sym c.frame_at.ensures ∙ c.in-Some.is))

pub slice_bounds-same_bytes-start : goal.slice_bounds-same_bytes-start
slice_bounds-same_bytes-start c = omega (arith, frame-inside _ _ _ _ (sym c.frame_at.ensures ∙ c.in-Some.is))

pub slice_bounds-same_bytes-end : goal.slice_bounds-same_bytes-end
slice_bounds-same_bytes-end c = omega (arith, frame-inside _ _ _ _ (sym c.frame_at.ensures ∙ c.in-Some.is))

pub returns-then-same_bytes : goal.returns-then-same_bytes
returns-then-same_bytes c =
    let loop = c.loop-i in
    let loop-test = c.loop-i-test in
    let frame_at = c.frame_at in
    let f = c.in-Some in
    let same_bytes = c.same_bytes in
    let if1 = c.if-same_bytes in
    sym (loop.invariant ∙ first-here _ _ _ _ _ _ (frames_turn _ _ _ _ _ loop-test.true (sym frame_at.ensures ∙ f.is))
    (sym same_bytes.ensures ∙ if1.true))

pub loop-i-preserved : goal.loop-i-preserved
loop-i-preserved c =
    let loop = c.loop-i in
    let loop-test = c.loop-i-test in
    let frame_at = c.frame_at in
    let f = c.in-Some in
    let same_bytes = c.same_bytes in
    let if1 = c.if-same_bytes in
    loop.invariant ∙ first_on _ _ _ _ _ _ (frames_turn _ _ _ _ _ loop-test.true (sym frame_at.ensures ∙ f.is)) (sym same_bytes.ensures ∙ if1.false)

pub returns : goal.returns
returns c =
    let args = c.args in
    let loop = c.loop-i in
    let loop-test = c.loop-i-test in
    sym (loop.invariant ∙ first-end _ _ _ _ (eqb loop.at (length args.s.now)) (frames-end _ _ _ _ (omega arith)))
