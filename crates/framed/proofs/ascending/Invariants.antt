-- `framed::ascending` meets its contract. Assumes nothing.
use Prim.Native.Nat.{◌≤◌, ◌-◌}
use mathlib.Core.Path.{◌≡◌}
use mathlib.Core.List.{[]}
use lib.ListN.{length, take, drop}
use Rattle.frame.specs.Frame.{frames}
use Rattle.twice.specs.Ids.{ids_in}
use Rattle.framed.specs.Ids.{rises}
use Rattle.framed.proofs.ascending.Given as goal

abbrev pub invariant-loop-i : goal.invariant-loop-i
invariant-loop-i l = (l.a ≤ l.b) × (l.b ≤ length l.s) × (rises [] (ids_in l.h l.s (frames l.h l.s l.count l.from)) ≡ rises (take (l.b - l.a) (drop l.a l.s)) (ids_in l.h l.s (frames l.h l.s (l.count - l._i) l.at)))
