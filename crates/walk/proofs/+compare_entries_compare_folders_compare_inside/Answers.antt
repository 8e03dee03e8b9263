-- The cycle of `walk::compare_folders`, `walk::compare_entries` and `walk::compare_inside`: the levels to go fall, then the entries left.
-- Assumes nothing.
use native.Mathlib.Omega.{arith}
use native.Mathlib.Nat.{pos_of_ne-zero}
use mathlib.Core.Path.{sym, ◌∙◌}
use lib.ListN.{length}
use Rattle.merge.proofs.Laws as merging
use Rattle.opening.proofs.Laws.{both-within}
use Rattle.walk.specs.Walk.{compare_folders}
use Rattle.walk.specs.Code.{folders_in}
use Rattle.walk.proofs.Turning as turning
use Rattle.walk.proofs.+compare_entries_compare_folders_compare_inside.Goals as goal

pub compare_entries-loop-next-init : goal.compare_entries-loop-next-init
compare_entries-loop-next-init t c =
    let args = c.args in
    let pre = c.requires in
    turning.going_start (compare_folders (folders_in args.k args.bundle.now args.index.now) args.depth) args.k.h args.bundle.now args.ps
    args.pl args.l args.r args.m args.items.now args.paths.now pre.within pre.within_2
    pre.small

pub compare_entries-shape_of-items-in-Done : goal.compare_entries-shape_of-items-in-Done
compare_entries-shape_of-items-in-Done t c = c.loop-next.invariant.items_kept

pub compare_entries-shape_of-paths-in-Done : goal.compare_entries-shape_of-paths-in-Done
compare_entries-shape_of-paths-in-Done t c = c.loop-next.invariant.paths_kept

pub compare_entries-returns-in-Done : goal.compare_entries-returns-in-Done
compare_entries-returns-in-Done t c =
    let loop = c.loop-next in
    let merge_step = c.merge_step in
    let enum_told = c.in-Done in
    record { by_index = turning.going_done loop.invariant merge_step.result merge_step.ensures enum_told.is; small_2 = loop.invariant.small }

pub compare_entries-loop-next-smaller-in-Same : goal.compare_entries-loop-next-smaller-in-Same
compare_entries-loop-next-smaller-in-Same t c =
    let args = c.args in
    let loop = c.loop-next in
    let merge_step = c.merge_step in
    let next = c.in-Same in
    omega (
      arith,
      (merging.same_leads args.k.h args.bundle.now loop.l loop.r loop.invariant.left_in loop.invariant.right_in merge_step.result
          merge_step.ensures next.next next.past next.is).2,
    )

pub compare_entries-loop-next-preserved-in-Same : goal.compare_entries-loop-next-preserved-in-Same
compare_entries-loop-next-preserved-in-Same t c =
    let loop = c.loop-next in
    let merge_step = c.merge_step in
    let next = c.in-Same in
    turning.going-same loop.invariant merge_step.result merge_step.ensures next.next next.past next.is

pub compare_entries-add-p-requires : goal.compare_entries-add-p-requires
compare_entries-add-p-requires t c =
    let args = c.args in
    let pre = c.requires in
    let loop = c.loop-next in
    let merge_step = c.merge_step in
    let change = c.in-Differs in record {
      bundle_len_bound = pre.bundle_len_bound;
      pl_bound = omega (arith, pre.pl_bound, loop.invariant.onward);
      pl_bound_2 = turning.short-path args.pl args.depth pre.short;
      small = loop.invariant.small;
      change_within = (merging.differs_leads args.k.h args.bundle.now loop.l loop.r loop.invariant.left_in loop.invariant.right_in
          merge_step.result merge_step.ensures change.c change.next change.past change.is).0;
    }

pub compare_entries-shape_of-items-then-p-ne-DONE : goal.compare_entries-shape_of-items-then-p-ne-DONE
compare_entries-shape_of-items-then-p-ne-DONE t c =
    let loop = c.loop-next in
    let add = c.add-p in
    add.auto.items ∙ loop.invariant.items_kept

pub compare_entries-shape_of-paths-then-p-ne-DONE : goal.compare_entries-shape_of-paths-then-p-ne-DONE
compare_entries-shape_of-paths-then-p-ne-DONE t c =
    let loop = c.loop-next in
    let add = c.add-p in
    add.auto.paths ∙ loop.invariant.paths_kept

pub compare_entries-returns-then-p-ne-DONE : goal.compare_entries-returns-then-p-ne-DONE
compare_entries-returns-then-p-ne-DONE t c =
    let pre = c.requires in
    let loop = c.loop-next in
    let merge_step = c.merge_step in
    let change = c.in-Differs in
    let add = c.add-p in
    let if1 = c.if-p-ne-DONE in record {
      by_index = turning.going_full loop.invariant merge_step.result merge_step.ensures change.c change.next change.past
          change.is pre.pl_bound add.result add.new.items add.new.paths add.ensures.by_index if1.true;
      small_2 = add.ensures.added.0;
    }

pub compare_entries-overflow_sub-size : goal.compare_entries-overflow_sub-size
compare_entries-overflow_sub-size t c = omega (arith, c.add-p.ensures.added.1)

pub compare_entries-compare_inside-w-requires : goal.compare_entries-compare_inside-w-requires
compare_entries-compare_inside-w-requires t c =
    let args = c.args in
    let pre = c.requires in
    let loop = c.loop-next in
    let merge_step = c.merge_step in
    let change = c.in-Differs in
    let add = c.add-p in (
      turning.entry-falls args.depth _ t c.decreases,
      (
        pre.bundle_len_bound,
        (
          omega (arith, add.ensures.added.1),
          (
            turning.child_short loop.m add.result args.pl args.depth add.ensures.added pre.short,
            (
              add.ensures.added.0,
              (merging.differs_leads args.k.h args.bundle.now loop.l loop.r loop.invariant.left_in loop.invariant.right_in
                  merge_step.result merge_step.ensures change.c change.next change.past change.is).0,
            ),
          ),
        ),
      ),
    )

pub compare_entries-shape_of-items-then-w-ne-DONE : goal.compare_entries-shape_of-items-then-w-ne-DONE
compare_entries-shape_of-items-then-w-ne-DONE t c =
    let loop = c.loop-next in
    let add = c.add-p in
    let compare-inside = c.compare_inside-w in
    compare-inside.auto.items ∙ add.auto.items ∙ loop.invariant.items_kept

pub compare_entries-shape_of-paths-then-w-ne-DONE : goal.compare_entries-shape_of-paths-then-w-ne-DONE
compare_entries-shape_of-paths-then-w-ne-DONE t c =
    let loop = c.loop-next in
    let add = c.add-p in
    let compare-inside = c.compare_inside-w in
    compare-inside.auto.paths ∙ add.auto.paths ∙ loop.invariant.paths_kept

pub compare_entries-returns-then-w-ne-DONE : goal.compare_entries-returns-then-w-ne-DONE
compare_entries-returns-then-w-ne-DONE t c =
    let pre = c.requires in
    let loop = c.loop-next in
    let merge_step = c.merge_step in
    let change = c.in-Differs in
    let add = c.add-p in
    let if1 = c.if-p-ne-DONE in
    let compare-inside = c.compare_inside-w in
    let if2 = c.if-w-ne-DONE in record {
      by_index = turning.going-stop loop.invariant merge_step.result merge_step.ensures change.c change.next change.past
          change.is pre.pl_bound add.result add.new.items add.new.paths add.ensures.by_index if1.false add.ensures.added add.auto.items
          add.auto.paths compare-inside.result compare-inside.new.items compare-inside.new.paths compare-inside.ensures.by_index
          if2.true;
      small_2 = compare-inside.ensures.small_2;
    }

pub compare_entries-loop-next-smaller : goal.compare_entries-loop-next-smaller
compare_entries-loop-next-smaller t c =
    let args = c.args in
    let loop = c.loop-next in
    let merge_step = c.merge_step in
    let change = c.in-Differs in
    omega (
      arith,
      (merging.differs_leads args.k.h args.bundle.now loop.l loop.r loop.invariant.left_in loop.invariant.right_in merge_step.result
          merge_step.ensures change.c change.next change.past change.is).1.2,
    )

pub compare_entries-loop-next-preserved : goal.compare_entries-loop-next-preserved
compare_entries-loop-next-preserved t c =
    let pre = c.requires in
    let loop = c.loop-next in
    let merge_step = c.merge_step in
    let change = c.in-Differs in
    let add = c.add-p in
    let if1 = c.if-p-ne-DONE in
    let compare-inside = c.compare_inside-w in
    let if2 = c.if-w-ne-DONE in
    turning.going_on loop.invariant merge_step.result merge_step.ensures change.c change.next change.past
    change.is pre.pl_bound add.result add.new.items add.new.paths add.ensures.by_index if1.false add.ensures.added add.auto.items
    add.auto.paths compare-inside.result compare-inside.new.items compare-inside.new.paths compare-inside.ensures.by_index
    if2.false compare-inside.ensures.small_2 compare-inside.auto.items compare-inside.auto.paths

pub compare_folders-overflow_sub-depth : goal.compare_folders-overflow_sub-depth
compare_folders-overflow_sub-depth t c =
    let args = c.args in
    let open-both = c.open_both in
    let l = c.in-Ok in
    pos_of_ne-zero (both-within args.k args.bundle.now args.a.now args.b.now args.depth args.index.now l.l
    l.r (sym open-both.ensures ∙ l.is)).0

pub compare_folders-compare_entries-requires : goal.compare_folders-compare_entries-requires
compare_folders-compare_entries-requires t c =
    let args = c.args in
    let pre = c.requires in
    let open-both = c.open_both in
    let l = c.in-Ok in
    let f = both-within args.k args.bundle.now args.a.now args.b.now args.depth args.index.now l.l l.r
    (sym open-both.ensures ∙ l.is) in (
      turning.opened-falls args.depth t l.l.left l.r.left c.decreases f.0 f.1.1 f.2.1,
      (pre.bundle_len_bound, (pre.pl_bound, (turning.short-next args.pl args.depth f.0 pre.short, (pre.small, (f.1.0, f.2.0))))),
    )

pub compare_folders-returns-in-Err : goal.compare_folders-returns-in-Err
compare_folders-returns-in-Err t c =
    let args = c.args in
    let pre = c.requires in
    let open-both = c.open_both in
    let v = c.in-Err in record {
      by_index = λ prefix e. turning.tree-closed args.depth args.k args.bundle.now args.a.now args.b.now args.index.now open-both.result
          open-both.ensures args.m _ args.items.now args.paths.now prefix v.v v.is;
      small_2 = pre.small;
    }

pub compare_folders-returns-in-Ok : goal.compare_folders-returns-in-Ok
compare_folders-returns-in-Ok t c =
    let args = c.args in
    let open-both = c.open_both in
    let l = c.in-Ok in
    let compare-entries = c.compare_entries in record {
      by_index = λ prefix e. turning.tree-both args.depth args.k args.bundle.now args.a.now args.b.now args.index.now open-both.result
          open-both.ensures args.m _ args.items.now args.paths.now prefix l.l l.r l.is compare-entries.result
          compare-entries.new.items compare-entries.new.paths (compare-entries.ensures.by_index prefix e);
      small_2 = compare-entries.ensures.small_2;
    }

pub compare_inside-slice_bounds-compare_folders-count : goal.compare_inside-slice_bounds-compare_folders-count
compare_inside-slice_bounds-compare_folders-count t c =
    let args = c.args in
    let pre = c.requires in
    let f = turning.left-side (length args.bundle.now) args.c pre.change_within in
    omega (arith, f.0, f.1)

pub compare_inside-slice_bounds-compare_folders-start : goal.compare_inside-slice_bounds-compare_folders-start
compare_inside-slice_bounds-compare_folders-start t c =
    let args = c.args in
    let pre = c.requires in
    let f = turning.left-side (length args.bundle.now) args.c pre.change_within in
    omega (arith, f.0, f.1)

pub compare_inside-slice_bounds-compare_folders-end : goal.compare_inside-slice_bounds-compare_folders-end
compare_inside-slice_bounds-compare_folders-end t c =
    let args = c.args in
    let pre = c.requires in
    let f = turning.left-side (length args.bundle.now) args.c pre.change_within in
    omega (arith, f.0, f.1)

pub compare_inside-slice_bounds-compare_folders-count-then-c : goal.compare_inside-slice_bounds-compare_folders-count-then-c
compare_inside-slice_bounds-compare_folders-count-then-c t c =
    let args = c.args in
    let pre = c.requires in
    let f = turning.right_side (length args.bundle.now) args.c pre.change_within in
    omega (arith, f.0, f.1)

pub compare_inside-slice_bounds-compare_folders-start-then-c : goal.compare_inside-slice_bounds-compare_folders-start-then-c
compare_inside-slice_bounds-compare_folders-start-then-c t c =
    let args = c.args in
    let pre = c.requires in
    let f = turning.right_side (length args.bundle.now) args.c pre.change_within in
    omega (arith, f.0, f.1)

pub compare_inside-slice_bounds-compare_folders-end-then-c : goal.compare_inside-slice_bounds-compare_folders-end-then-c
compare_inside-slice_bounds-compare_folders-end-then-c t c =
    let args = c.args in
    let pre = c.requires in
    let f = turning.right_side (length args.bundle.now) args.c pre.change_within in
    omega (arith, f.0, f.1)

pub compare_inside-compare_folders-requires : goal.compare_inside-compare_folders-requires
compare_inside-compare_folders-requires t c =
    let args = c.args in
    let pre = c.requires in
    (turning.inside-falls args.depth t c.decreases, (pre.bundle_len_bound, (omega (arith, pre.size_bound), (pre.short, pre.small))))

pub compare_inside-returns-then-c : goal.compare_inside-returns-then-c
compare_inside-returns-then-c t c =
    let args = c.args in
    let if1 = c.if-c in
    let compare-folders = c.compare_folders in record {
      by_index = λ prefix e. turning.inside_deep (compare_folders (folders_in args.k args.bundle.now args.index.now) args.depth) prefix args.bundle.now
          args.c args.m _ args.items.now args.paths.now if1.true compare-folders.result compare-folders.new.items
          compare-folders.new.paths (compare-folders.ensures.by_index prefix e);
      small_2 = compare-folders.ensures.small_2;
    }

pub compare_inside-returns : goal.compare_inside-returns
compare_inside-returns t c =
    let args = c.args in
    let if1 = c.if-c in record {
      by_index = λ prefix e. turning.inside-flat (compare_folders (folders_in args.k args.bundle.now args.index.now) args.depth) prefix args.bundle.now
          args.c args.m _ args.items.now args.paths.now if1.false;
      small_2 = c.requires.small;
    }
