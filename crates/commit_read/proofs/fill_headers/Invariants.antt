-- `commit_read::fill_headers` meets its contract. Assumes nothing.
use Prim.Native.Nat.{◌≤◌, ◌-◌}
use mathlib.Core.Path.{◌≡◌}
use lib.ListN.{length}
use Rattle.commit_fields.specs.Headers.{heads, rest_heads}
use Rattle.commit_read.specs.Stored.{heads_stored}
use Rattle.commit_read.proofs.fill_headers.Given as goal

abbrev pub invariant-loop-x : goal.invariant-loop-x
invariant-loop-x l = (l.n ≤ l.p) × (length l.out ≡ length l.initial.out) × (heads_stored l.initial.out 0 (heads l.s l.at) ≡ heads_stored l.out l.n (rest_heads l.s l.p l.n))

abbrev pub decreases-loop-x : goal.decreases-loop-x
decreases-loop-x l = length l.s - l.p
