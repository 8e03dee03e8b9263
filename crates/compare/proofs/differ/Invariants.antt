-- `compare::differ` meets its contract. Assumes nothing.
use Prim.Native.Nat.{◌-◌, ◌+◌, ◌≤◌}
use mathlib.Core.Path.{◌≡◌}
use lib.ListN.{take}
use Rattle.compare.proofs.differ.Given as goal

abbrev pub invariant-loop-k : goal.invariant-loop-k
invariant-loop-k l = (l.k ≤ l.n) × (l.hit ≡ 0 → take (l.i + l.k) l.a ≡ take (l.i + l.k) l.b) × ((l.hit ≡ 0 → ⊥) → take (l.i + l.k) l.a ≡ take (l.i + l.k) l.b → ⊥)

abbrev pub decreases-loop-k : goal.decreases-loop-k
decreases-loop-k l = l.n - l.k
