-- `commit_fields::count_headers` meets its contract. Assumes nothing.
use Prim.Native.Nat.{◌≤◌, ◌-◌}
use mathlib.Core.Path.{◌≡◌}
use lib.ListN.{length}
use Rattle.commit_fields.specs.Headers.{heads, rest_heads, tally}
use Rattle.commit_fields.proofs.count_headers.Given as goal

abbrev pub invariant-loop-next : goal.invariant-loop-next
invariant-loop-next l = (l.n ≤ l.p) × (tally 0 (heads l.s l.at) ≡ tally l.n (rest_heads l.s l.p l.n))

abbrev pub decreases-loop-next : goal.decreases-loop-next
decreases-loop-next l = length l.s - l.p
