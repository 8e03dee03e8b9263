-- `piece_first::bodies` meets its contract. Assumes nothing.
use mathlib.Core.Path.{◌≡◌}
use Prim.Native.Nat.{◌+◌, ◌≤◌}
use lib.ListN.{drop}
use Rattle.arriving.specs.Feed.{together, bodies}
use Rattle.piece_first.proofs.bodies.Given as goal

abbrev pub invariant-loop-k : goal.invariant-loop-k
invariant-loop-k l =
    (bodies (together l.initial.held l.initial.ends l.initial.out) (drop l.fn.n l.head) ≡ bodies (together l.held l.ends l.out) (drop l.k l.head)) × (l.out.at ≤ 2147483648 + l.k)
