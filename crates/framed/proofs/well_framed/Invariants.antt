-- `framed::well_framed` meets its contract. Assumes nothing.
use Prim.Native.Nat.{◌-◌}
use mathlib.Core.Path.{◌≡◌}
use Rattle.frame.specs.Frame.{frames, whole}
use Rattle.framed.proofs.well_framed.Given as goal

abbrev pub invariant-loop-i : goal.invariant-loop-i
invariant-loop-i l = whole (frames l.h l.s l.count l.from) ≡ whole (frames l.h l.s (l.count - l._i) l.at)
