-- `commit_fields::count_parents` meets its contract. Assumes nothing.
use Prim.Native.Nat.{◌+◌, ◌≤◌, ◌-◌}
use mathlib.Core.Path.{◌≡◌}
use lib.ListN.{length}
use Rattle.commit_fields.specs.Parents.{parent_count, rest_parents}
use Rattle.commit_fields.proofs.count_parents.Given as goal

abbrev pub invariant-loop-p : goal.invariant-loop-p
invariant-loop-p l = (l.n ≤ l.p) × (parent_count l.h l.s l.at ≡ l.n + rest_parents l.h l.s l.p l.n)

abbrev pub decreases-loop-p : goal.decreases-loop-p
decreases-loop-p l = length l.s - l.p
