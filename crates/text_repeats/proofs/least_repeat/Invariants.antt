-- `text_repeats::least_repeat` meets its contract. Assumes nothing.
use Prim.Native.Nat.{◌-◌, ◌≤◌}
use mathlib.Core.Path.{◌≡◌}
use lib.ListN.{length, drop}
use Rattle.text_repeats.specs.Least.{same_record, least_next}
use Rattle.text_repeats.proofs.least_repeat.Given as goal

abbrev pub invariant-loop-i : goal.invariant-loop-i
invariant-loop-i l = (1 ≤ l.i) × (least_next (same_record l.text) l.list 4294967296 ≡ least_next (same_record l.text) (drop (l.i - 1) l.list) l.least)
