-- `component::find_entry` meets its contract. Assumes nothing.
use Prim.Native.Nat.{ℕ, ◌≤◌, ◌-◌}
use mathlib.Core.Path.{◌≡◌}
use lib.ListN.{length, drop}
use Rattle.reading.specs.Listing.{plain}
use Rattle.component.specs.Named.{first_in}
use Rattle.component.proofs.find_entry.Given as goal

abbrev pub invariant-loop-c : goal.invariant-loop-c
invariant-loop-c l =
    (k : ℕ) × (length l.tree - l.c.at ≤ k) × (first_in l.tree l.name (plain l.h (length l.tree) 0 l.tree) ≡ first_in l.tree l.name (plain l.h k l.c.at (drop l.c.at l.tree)))

abbrev pub decreases-loop-c : goal.decreases-loop-c
decreases-loop-c l = length l.tree - l.c.at
