-- `output::put` meets its contract. Assumes nothing.
use lib.Seq.{sets}
use lib.ListN.{take, drop}
use mathlib.Core.Path.{◌≡◌}
use Prim.Native.Nat.{◌+◌}
use Rattle.output.proofs.put.Given as goal

abbrev pub invariant-loop-k : goal.invariant-loop-k
invariant-loop-k l = sets l.initial.out l.at (take l.n l.piece) ≡ sets l.out (l.at + l.k) (drop l.k (take l.n l.piece))
