-- `pieces::feed` meets its contract. Assumes nothing.
use mathlib.Core.Path.{◌≡◌}
use Prim.Native.Nat.{◌-◌, ◌≤◌}
use lib.ListN.{length, drop}
use Rattle.arriving.specs.Feed.{together, feed_of}
use Rattle.pieces.proofs.feed.Given as goal

abbrev pub invariant-loop-b : goal.invariant-loop-b
invariant-loop-b l =
    (feed_of (together l.initial.held l.initial.ends l.initial.t.marks) l.piece ≡ feed_of (together l.held l.ends l.t.marks) (drop l.t.next l.piece)) × (l.t.next ≤ length l.piece)

abbrev pub decreases-loop-b : goal.decreases-loop-b
decreases-loop-b l = length l.piece - l.t.next
