-- `text_record::begins_with` meets its contract. Assumes nothing.
use native.Mathlib.Omega.{arith}
use mathlib.Core.Path.{sym}
use lib.Seq.{length-take-le}
use Rattle.tree_text.proofs.Laws.{front-is}
use Rattle.text_record.proofs.Laws.{begins-is}
use Rattle.text_record.proofs.begins_with.Goals as goal

pub slice_bounds-text-end : goal.slice_bounds-text-end
slice_bounds-text-end c = let w = front-is _ _ c.front_of-front.ensures in omega (arith, w.1, w.2)

pub slice_bounds-same_bytes-end : goal.slice_bounds-same_bytes-end
slice_bounds-same_bytes-end c = let w = front-is _ _ c.front_of-front.ensures in sym (length-take-le _ _ (omega (arith, w.1, w.2)))

pub returns : goal.returns
returns c =
    let args = c.args in
    let front_of = c.front_of-front in
    let first = c.first in
    let same_bytes = c.same_bytes in
    begins-is args.mode args.b.now _ front_of.ensures first.ensures same_bytes.ensures
