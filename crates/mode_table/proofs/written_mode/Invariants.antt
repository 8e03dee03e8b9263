-- `mode_table::written_mode` meets its contract. The loop's invariant: the rows passed do not have the text. Assumes nothing.
use Prim.Native.Nat.{◌≤◌, ◌-◌}
use mathlib.Core.Path.{◌≡◌}
use lib.ListN.{drop}
use Rattle.mode_table.specs.Table.{rows, find_text, written_mode}
use Rattle.mode_table.proofs.written_mode.Given as goal

abbrev pub invariant-loop-i : goal.invariant-loop-i
invariant-loop-i l = (l.i ≤ 5) × (written_mode l.t ≡ find_text l.t (drop l.i rows))

abbrev pub decreases-loop-i : goal.decreases-loop-i
decreases-loop-i l = 5 - l.i
