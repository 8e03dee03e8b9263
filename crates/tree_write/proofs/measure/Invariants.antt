-- `tree_write::measure` meets its contract. Assumes nothing.
use Rattle.tree_write.specs.Write.{measured}
use Rattle.entry.specs.Record.{many, records_of}
use lib.ListN.{length, drop}
use mathlib.Core.Path.{◌≡◌}
use Prim.Native.Nat.{◌≤◌, ◌-◌, ◌*◌}
use Rattle.tree_write.proofs.measure.Given as goal

abbrev pub invariant-loop-i : goal.invariant-loop-i
invariant-loop-i l = (l.i ≤ l.n) × (l.n ≡ many (length l.records)) × (l.sum ≤ l.i * 1073741864) × (measured l.writing l.h l.bytes 0 0 (records_of l.records) ≡ measured l.writing l.h l.bytes l.i l.sum (drop l.i (records_of l.records)))
