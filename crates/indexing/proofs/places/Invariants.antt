-- `indexing::places` meets its contract. Assumes nothing.
use Prim.Native.Nat.{◌-◌}
use Rattle.frame.specs.Frame.{frames}
use Rattle.indexing.proofs.Storing.{Storing}
use Rattle.indexing.proofs.places.Given as goal

abbrev pub invariant-loop-n : goal.invariant-loop-n
invariant-loop-n l = Storing l.initial.list l.list (frames l.h l.s l.count l.from) (frames l.h l.s (l.count - l.n) l.at) l.n
