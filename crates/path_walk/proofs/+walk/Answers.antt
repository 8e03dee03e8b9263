-- The cycle of calls {walk}: the number of components left falls. Assumes nothing.
use native.Mathlib.Omega.{arith}
use mathlib.Core.Path.{sym}
use lib.Seq.{length-take-le}
use Rattle.ground.proofs.Laws.{count-le}
use Rattle.path_walk.proofs.Laws.{walk_ends, walk_none, walk-on, walk_falls, slash-inside, id-inside}
use Rattle.path_walk.proofs.+walk.Goals as goal

pub slice_bounds-step_to-end : goal.slice_bounds-step_to-end
slice_bounds-step_to-end t c =
    let count-to = c.count_to-n in
    let args = c.args in
    sym (length-take-le _ _ (omega (arith, count-to.ensures, count-le 47 args.path.now)))

pub returns-then-n-path : goal.returns-then-n-path
returns-then-n-path t c =
    let count-to = c.count_to-n in
    let step-to = c.step_to-spot in
    walk_ends _ _ _ _ _ _ count-to.ensures step-to.ensures c.if-n-path.true

pub overflow_add-end : goal.overflow_add-end
overflow_add-end t c =
    omega (
      arith,
      id-inside _ _ _ _ _ _ c.count_to-n.ensures
          c.step_to-spot.ensures c.if-n-path.false _ _ c.in-Some.is,
    )

pub overflow_add-rest : goal.overflow_add-rest
overflow_add-rest t c =
    omega (
      arith,
      slash-inside _ _ _ _ _ _ c.count_to-n.ensures
          c.step_to-spot.ensures c.if-n-path.false,
    )

pub slice_bounds-walk-count : goal.slice_bounds-walk-count
slice_bounds-walk-count t c =
    omega arith

pub slice_bounds-walk-start : goal.slice_bounds-walk-start
slice_bounds-walk-start t c =
    omega arith

pub slice_bounds-walk-end : goal.slice_bounds-walk-end
slice_bounds-walk-end t c =
    id-inside _ _ _ _ _ _ c.count_to-n.ensures c.step_to-spot.ensures
    c.if-n-path.false _ _ c.in-Some.is

pub slice_bounds-walk-count-in-Some : goal.slice_bounds-walk-count-in-Some
slice_bounds-walk-count-in-Some t c =
    slash-inside _ _ _ _ _ _ c.count_to-n.ensures
    c.step_to-spot.ensures c.if-n-path.false

pub slice_bounds-walk-start-in-Some : goal.slice_bounds-walk-start-in-Some
slice_bounds-walk-start-in-Some t c =
    slash-inside _ _ _ _ _ _ c.count_to-n.ensures
    c.step_to-spot.ensures c.if-n-path.false

pub slice_bounds-walk-end-in-Some : goal.slice_bounds-walk-end-in-Some
slice_bounds-walk-end-in-Some t c =
    omega arith

pub walk-requires : goal.walk-requires
walk-requires t c = (
  walk_falls _ _ _ _ _ _ c.count_to-n.ensures
      c.step_to-spot.ensures c.if-n-path.false
      c.decreases,
  tt,
)

pub returns-in-None : goal.returns-in-None
returns-in-None t c =
    let count-to = c.count_to-n in
    let step-to = c.step_to-spot in
    let if1 = c.if-n-path in
    walk_none _ _ _ _ _ _ count-to.ensures step-to.ensures if1.false c.in-None.is

pub returns-in-Some : goal.returns-in-Some
returns-in-Some t c =
    walk-on _ _ _ _ _ _ c.count_to-n.ensures
    c.step_to-spot.ensures
    c.if-n-path.false _ _ c.in-Some.is _ c.walk.ensures
