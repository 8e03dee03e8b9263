-- `strict::count_marked` meets its contract. Assumes nothing.
use Prim.Native.Nat.{◌-◌}
use mathlib.Core.Path.{◌≡◌}
use lib.ListN.{length}
use Rattle.ground.specs.Verdict.{most_records}
use Rattle.strict.proofs.Strictly.{Reading}
use Rattle.strict.proofs.count_marked.Given as goal

abbrev pub invariant-loop-at : goal.invariant-loop-at
invariant-loop-at l = Reading l.rules l.h l.s l.at l.n l.held l.last l.marks × (length l.marks ≡ length l.initial.marks)

abbrev pub decreases-loop-at : goal.decreases-loop-at
decreases-loop-at l = most_records - l.n
