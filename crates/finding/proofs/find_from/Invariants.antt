-- `finding::find_from` meets its contract. Assumes nothing.
use Prim.Native.Nat.{◌-◌}
use mathlib.Core.Path.{◌≡◌}
use Rattle.frame.specs.Frame.{frames}
use Rattle.frame.specs.Place.{first_of}
use Rattle.finding.proofs.find_from.Given as goal

abbrev pub invariant-loop-i : goal.invariant-loop-i
invariant-loop-i l = first_of l.h l.s l.id (frames l.h l.s l.count l.from) ≡ first_of l.h l.s l.id (frames l.h l.s (l.count - l._i) l.at)
