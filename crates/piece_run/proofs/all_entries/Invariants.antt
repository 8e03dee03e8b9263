-- `piece_run::all_entries` meets its contract. Assumes nothing.
use mathlib.Core.Path.{◌≡◌}
use Prim.Native.Nat.{◌-◌, ◌≤◌}
use Rattle.ground.specs.Verdict.{most_records}
use Rattle.arriving.specs.Feed.{most_held}
use Rattle.piece_run.specs.Runs.{going, all_from, all_of}
use Rattle.piece_run.proofs.all_entries.Given as goal

abbrev pub invariant-loop-r : goal.invariant-loop-r
invariant-loop-r l =
    (l.r.last.size ≤ most_held) × (all_of l.piece l.h (going l.initial.r l.initial.held l.initial.ends) ≡ all_from (most_records - l.r.count) l.piece l.h (going l.r l.held l.ends))

abbrev pub decreases-loop-r : goal.decreases-loop-r
decreases-loop-r l = most_records - l.r.count
