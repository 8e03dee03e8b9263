-- `tree_export::put_front` meets its contract. Assumes nothing.
use native.Mathlib.Omega.{arith}
use mathlib.Core.Path.{sym}
use lib.Seq.{length-take-le}
use Rattle.tree_text.proofs.Laws.{front-is}
use Rattle.tree_export.proofs.Laws.{front_added}
use Rattle.tree_export.proofs.put_front.Goals as goal

pub slice_bounds-first-end : goal.slice_bounds-first-end
slice_bounds-first-end c = let w = front-is _ _ c.front_of-front.ensures in omega (arith, w.1, w.2)

pub slice_bounds-put-end : goal.slice_bounds-put-end
slice_bounds-put-end c = let w = front-is _ _ c.front_of-front.ensures in sym (length-take-le _ _ (omega (arith, w.1, w.2)))

pub overflow_add-result : goal.overflow_add-result
overflow_add-result c =
    let pre = c.requires in
    let front_of = c.front_of-front in
    omega (arith, (front-is _ _ front_of.ensures).1, pre)

pub returns : goal.returns
returns c =
    let args = c.args in
    let front_of = c.front_of-front in
    let put = c.put in
    front_added _ _ _ _ args.at front_of.ensures put.ensures
