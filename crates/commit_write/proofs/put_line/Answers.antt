-- `commit_write::put_line` meets its contract. Assumes nothing.
use Rattle.commit_write.proofs.Laws.{line-places, range_put}
use lib.ListN.{length}
use Prim.Native.Nat.{◌+◌, ◌-◌}
use mathlib.Core.Path.{refl}
use Rattle.commit_write.proofs.put_line.Goals as goal

pub overflow_add-value : goal.overflow_add-value
overflow_add-value c =
    let a = c.args in
    record { fits = (line-places a.at (length a.word.now) (a.to - a.from) c.requires.from_bound).1 }

pub overflow_add-value-2 : goal.overflow_add-value-2
overflow_add-value-2 c =
    let a = c.args in
    record { fits = (line-places a.at (length a.word.now) (a.to - a.from) c.requires.from_bound).2 }

pub overflow_sub-end : goal.overflow_sub-end
overflow_sub-end c = c.requires.from_le_to.0

pub overflow_add-end : goal.overflow_add-end
overflow_add-end c =
    let a = c.args in
    record { fits = (line-places a.at (length a.word.now) (a.to - a.from) c.requires.from_bound).3 }

pub slice_bounds-put_ended-count : goal.slice_bounds-put_ended-count
slice_bounds-put_ended-count c = c.requires.from_le_to.0

pub slice_bounds-put_ended-start : goal.slice_bounds-put_ended-start
slice_bounds-put_ended-start c = c.requires.from_le_to.0

pub slice_bounds-put_ended-end : goal.slice_bounds-put_ended-end
slice_bounds-put_ended-end c = c.requires.from_le_to.1

pub overflow_add-result : goal.overflow_add-result
overflow_add-result c =
    let a = c.args in
    record { fits = (line-places a.at (length a.word.now) (a.to - a.from) c.requires.from_bound).4 }

pub returns : goal.returns
returns c =
    let args = c.args in
    let value = args.at + length args.word.now + 1 in
    let w = range_put _ _ _ args.word.now args.bytes.now args.at value (value + (args.to - args.from) + 1) args.from args.to
    c.requires.from_le_to.0 c.requires.from_le_to.1 refl refl c.put_ended.ensures c.put_ended-2.ensures in
    record { value = w.past; out_after = w.holds }
