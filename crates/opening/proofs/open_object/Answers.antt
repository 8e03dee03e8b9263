-- `opening::open_object` meets its contract. Assumes nothing.
use native.Mathlib.Omega.{arith}
use Rattle.opening.proofs.Laws.{object_other, object_stopped, object_total}
use Rattle.opening.proofs.open_object.Goals as goal

pub returns-then-f-ne-TREE : goal.returns-then-f-ne-TREE
returns-then-f-ne-TREE c = object_other _ _ _ c.if-f-ne-TREE.true

pub slice_bounds-strict_count-count : goal.slice_bounds-strict_count-count
slice_bounds-strict_count-count c = omega (arith, c.requires.0)

pub slice_bounds-strict_count-start : goal.slice_bounds-strict_count-start
slice_bounds-strict_count-start c =
    let pre = c.requires in
    omega (arith, pre.0, pre.1)

pub slice_bounds-strict_count-end : goal.slice_bounds-strict_count-end
slice_bounds-strict_count-end c =
    let pre = c.requires in
    omega (arith, pre.0, pre.1)

pub returns-in-Err : goal.returns-in-Err
returns-in-Err c =
    let if1 = c.if-f-ne-TREE in
    let strict-count = c.strict_count in
    object_stopped _ _ _ if1.false _ strict-count.ensures _ c.in-Err.is

pub returns-in-Ok : goal.returns-in-Ok
returns-in-Ok c =
    let if1 = c.if-f-ne-TREE in
    let strict-count = c.strict_count in
    object_total _ _ _ if1.false _ strict-count.ensures _ c.in-Ok.is
