-- `commit_write::put_id_line` meets its contract. Assumes nothing.
use Rattle.commit_write.proofs.Laws.{line-places, id-put, named-length}
use Rattle.grammar.specs.Named.{id_named}
use lib.ListN.{length}
use native.Mathlib.Nat.{le-add_right, lt_of_le_of_lt}
use Prim.Native.Nat.{◌+◌, ◌*◌}
use mathlib.Core.Path.{refl}
use Rattle.commit_write.proofs.put_id_line.Goals as goal

pub overflow_mul-end : goal.overflow_mul-end
overflow_mul-end c =
    let a = c.args in
    record { fits = (line-places a.at (length a.word.now) (2 * a.h) c.requires.h_bound.1).0 }

pub overflow_add-end : goal.overflow_add-end
overflow_add-end c = record { fits = lt_of_le_of_lt c.requires.h_in_bounds c.well_formed.1.1.1.0.0 }

pub overflow_add-digits : goal.overflow_add-digits
overflow_add-digits c =
    let a = c.args in
    record { fits = (line-places a.at (length a.word.now) (2 * a.h) c.requires.h_bound.1).1 }

pub overflow_add-digits-2 : goal.overflow_add-digits-2
overflow_add-digits-2 c =
    let a = c.args in
    record { fits = (line-places a.at (length a.word.now) (2 * a.h) c.requires.h_bound.1).2 }

pub overflow_mul-last : goal.overflow_mul-last
overflow_mul-last c =
    let a = c.args in
    record { fits = (line-places a.at (length a.word.now) (2 * a.h) c.requires.h_bound.1).0 }

pub overflow_add-last : goal.overflow_add-last
overflow_add-last c =
    let a = c.args in
    record { fits = (line-places a.at (length a.word.now) (2 * a.h) c.requires.h_bound.1).3 }

pub slice_bounds-put_digits-count : goal.slice_bounds-put_digits-count
slice_bounds-put_digits-count c = le-add_right _ _

pub slice_bounds-put_digits-start : goal.slice_bounds-put_digits-start
slice_bounds-put_digits-start c = le-add_right _ _

pub slice_bounds-put_digits-end : goal.slice_bounds-put_digits-end
slice_bounds-put_digits-end c = c.requires.h_in_bounds

pub overflow_add-result : goal.overflow_add-result
overflow_add-result c =
    let a = c.args in
    record { fits = (line-places a.at (length a.word.now) (2 * a.h) c.requires.h_bound.1).4 }

pub returns : goal.returns
returns c =
    let args = c.args in
    let digits = args.at + length args.word.now + 1 in
    let last = digits + 2 * args.h in
    let w = id-put _ _ _ _ args.word.now (id_named args.h args.bytes.now args.from) args.at digits last (last + 1) (2 * args.h)
    (named-length args.h args.bytes.now args.from c.requires.h_in_bounds) refl refl refl c.put_ended.ensures
    c.put_digits.ensures c.put_byte.ensures in
    record { value = w.past; out_after = w.holds }
