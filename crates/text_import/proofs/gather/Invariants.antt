-- `text_import::gather` meets its contract. Assumes nothing.
use Prim.Native.Nat.{◌-◌}
use Rattle.ground.specs.Verdict.{most_records}
use Rattle.text_import.proofs.Walk.{Gathering}
use Rattle.text_import.proofs.gather.Given as goal

abbrev pub invariant-loop-at : goal.invariant-loop-at
invariant-loop-at l = Gathering l.rules l.h l.text l.initial.list l.list l.at l.n

abbrev pub decreases-loop-at : goal.decreases-loop-at
decreases-loop-at l = most_records - l.n
