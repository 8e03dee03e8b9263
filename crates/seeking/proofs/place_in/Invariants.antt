-- `seeking::place_in` meets its contract. Assumes nothing.
use Prim.Native.Nat.{◌-◌, ◌≤◌}
use mathlib.Core.Path.{◌≡◌}
use lib.ListN.{length}
use Rattle.seeking.specs.Index.{order_in, halved, place_in}
use Rattle.seeking.proofs.place_in.Given as goal

abbrev pub invariant-loop-low : goal.invariant-loop-low
invariant-loop-low l = (place_in l.h l.bundle l.index l.id ≡ halved (order_in l.h l.bundle l.index l.id) l.low l.high) × (l.high ≤ length l.index)

abbrev pub decreases-loop-low : goal.decreases-loop-low
decreases-loop-low l = l.high - l.low
