-- `indexing::places` meets its contract. Assumes nothing.
use native.Mathlib.Omega.{arith}
use mathlib.Core.Path.{◌≡◌, sym, ◌∙◌}
use Prim.Native.Nat.{◌-◌}
use lib.ListN.{length}
use lib.Dec.{eqb}
use Rattle.frame.proofs.Laws.{frames-end, frames-broken, frames_turn, frame-inside}
use Rattle.indexing.proofs.Storing.{storing_start, storing_set, storing_end, elements_end, elements-fault}
use Rattle.indexing.proofs.places.Goals as goal

pub loop-n-init : goal.loop-n-init
loop-n-init c =
    let z : c.args.count - 0 ≡ c.args.count = omega arith in
    rw z (storing_start _ _)

pub shape_of-list-in-None : goal.shape_of-list-in-None
shape_of-list-in-None c = omega (arith, c.loop-n.invariant.size)

pub returns-in-None : goal.returns-in-None
returns-in-None c =
    let loop = c.loop-n in
    let r = storing_end _ _ _ _ _ loop.invariant (elements-fault _ (frames-broken _ _ _ _ (omega arith) (sym c.frame_at.ensures ∙ c.in-None.is))) in
    record { value = r.0; list_after = r.1 }

pub overflow_mul-list : goal.overflow_mul-list
overflow_mul-list c = omega (arith, frame-inside _ _ _ _ (sym c.frame_at.ensures ∙ c.in-Some.is), c.requires.s_len_bound)

pub overflow_cast-list : goal.overflow_cast-list
overflow_cast-list c = omega (arith, frame-inside _ _ _ _ (sym c.frame_at.ensures ∙ c.in-Some.is), c.requires.s_len_bound)

pub offset_bounds-list-n : goal.offset_bounds-list-n
offset_bounds-list-n c = omega (arith, c.loop-n.invariant.size, c.requires.count_in_bounds)

pub bounds-list-n : goal.bounds-list-n
bounds-list-n c = omega (arith, c.loop-n.invariant.size, c.requires.count_in_bounds)

pub loop-n-preserved : goal.loop-n-preserved
loop-n-preserved c =
    let loop = c.loop-n in
    storing_set _ _ _ _ _ _ _ loop.invariant (frames_turn _ _ _ _ _ c.loop-n-test.true (sym c.frame_at.ensures ∙ c.in-Some.is))

pub shape_of-list : goal.shape_of-list
shape_of-list c = omega (arith, c.loop-n.invariant.size)

pub returns : goal.returns
returns c =
    let loop = c.loop-n in
    let r = storing_end _ _ _ _ _ loop.invariant (elements_end _ (eqb loop.at (length c.args.s.now)) (frames-end _ _ _ _ (omega arith))) in
    record { value = omega (arith, r.0); list_after = r.1 }
