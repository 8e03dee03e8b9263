-- The cycle of `walk::compare_folders`, `walk::compare_entries` and `walk::compare_inside`: the levels to go fall, then the entries left.
-- Assumes nothing.
use Prim.Native.Nat.{◌+◌}
use Rattle.walk.specs.Walk.{compare_folders}
use Rattle.walk.specs.Code.{folders_in}
use Rattle.walk.proofs.Turning as turning
use Rattle.walk.proofs.+compare_entries_compare_folders_compare_inside.Given as goal

abbrev pub decreases-compare_entries : goal.decreases-compare_entries
decreases-compare_entries l = turning.level l.depth (l.l.left + l.r.left + 2)

abbrev pub decreases-compare_folders : goal.decreases-compare_folders
decreases-compare_folders l = turning.level l.depth 0

abbrev pub decreases-compare_inside : goal.decreases-compare_inside
decreases-compare_inside l = turning.level l.depth 1

abbrev pub invariant-compare_entries-loop-next : goal.invariant-compare_entries-loop-next
invariant-compare_entries-loop-next l =
    turning.Going (compare_folders (folders_in l.k l.bundle l.index) l.depth) l.k.h l.bundle l.ps l.pl l.initial.l l.initial.r l.initial.m l.initial.items l.initial.paths l.l l.r l.m l.items l.paths

abbrev pub decreases-compare_entries-loop-next : goal.decreases-compare_entries-loop-next
decreases-compare_entries-loop-next l = l.l.left + l.r.left
