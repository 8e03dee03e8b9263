-- `mode_text::octal_of` meets its contract. The loop's invariant: reading the whole is reading the rest after the sum so far. Assumes nothing.
use Prim.Native.Nat.{◌≤◌, ◌-◌}
use mathlib.Core.Path.{◌≡◌}
use lib.ListN.{length, drop}
use Rattle.mode_text.specs.Read.{octal_from}
use Rattle.mode_text.proofs.octal_of.Given as goal

abbrev pub invariant-loop-n : goal.invariant-loop-n
invariant-loop-n l = (l.n ≤ length l.t) × (octal_from 0 l.t ≡ octal_from l.sum (drop l.n l.t))

abbrev pub decreases-loop-n : goal.decreases-loop-n
decreases-loop-n l = length l.t - l.n
