-- `framed::well_framed` meets its contract. Assumes nothing.
use native.Mathlib.Omega.{arith}
use Prim.Native.Nat.{ℕ, ◌-◌}
use mathlib.Core.Path.{◌≡◌, sym, ap, ◌∙◌}
use lib.ListN.{length}
use lib.Dec.{eqb}
use Rattle.frame.specs.Frame.{frames, whole}
use Rattle.frame.proofs.Laws.{frames-end, frames-broken, frames_turn, whole_end}
use Rattle.framed.proofs.well_framed.Goals as goal

pub loop-i-init : goal.loop-i-init
loop-i-init c =
    let args = c.args in
    let z : args.count ≡ args.count - 0 = omega arith in
    ap (λ (k : ℕ). whole (frames args.h args.s.now k args.from)) z

pub returns-in-None : goal.returns-in-None
unfolding whole
returns-in-None c = sym (c.loop-i.invariant ∙ ap whole (frames-broken _ _ _ _ (omega arith) (sym c.frame_at.ensures ∙ c.in-None.is)))

pub loop-i-preserved : goal.loop-i-preserved
unfolding whole
loop-i-preserved c = c.loop-i.invariant ∙ ap whole (frames_turn _ _ _ _ _ c.loop-i-test.true (sym c.frame_at.ensures ∙ c.in-Some.is))

pub returns : goal.returns
returns c =
    let loop = c.loop-i in
    sym (loop.invariant ∙ ap whole (frames-end _ _ _ _ (omega arith)) ∙ whole_end (eqb loop.at (length c.args.s.now)))
