-- `difference::compare_with` meets its contract. Assumes nothing.
use mathlib.Core.Path.{sym}
use lib.Seq.{length-take-le}
use Rattle.indexing.proofs.Laws.{front_fits}
use Rattle.seeking.proofs.Made.{front-index}
use Rattle.walk.proofs.Ending.{ends_same}
use Rattle.difference.proofs.Folders.{walk_is}
use Rattle.difference.proofs.compare_with.Goals as goal

pub slice_bounds-walk_trees-end : goal.slice_bounds-walk_trees-end
slice_bounds-walk_trees-end c =
    let args = c.args in
    front_fits args.bundle.now args.k args.list.now _ _ (c.make_index-n.ensures.count, c.make_index-n.ensures.list)

pub slice_bounds-walk_trees-end-2 : goal.slice_bounds-walk_trees-end-2
slice_bounds-walk_trees-end-2 c =
    let args = c.args in
    sym (length-take-le _ _ (front_fits args.bundle.now args.k args.list.now _ _ (c.make_index-n.ensures.count, c.make_index-n.ensures.list)))

pub returns : goal.returns
returns c =
    let r = (let args = c.args in
    ends_same _ _ _ _ _ _ _ (walk_is args.k args.bundle.now _ args.left.now args.right.now
    (front-index args.bundle.now args.k args.list.now _ _ c.requires.index (c.make_index-n.ensures.count, c.make_index-n.ensures.list)) c.requires.bundle_len_bound) (c.walk_trees.ensures.answer, (c.walk_trees.ensures.items, c.walk_trees.ensures.paths))) in
    record { value = r.0; after = r.1.0; paths_after = r.1.1 }
