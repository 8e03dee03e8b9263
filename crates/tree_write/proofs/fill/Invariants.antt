-- `tree_write::fill` meets its contract. Assumes nothing.
use Rattle.tree_write.specs.Write.{measured, written}
use Rattle.entry.specs.Record.{many, records_of}
use lib.Seq.{sets}
use lib.ListN.{length, drop}
use mathlib.Core.Bool.{true}
use mathlib.Core.Path.{◌≡◌}
use Prim.Native.Nat.{◌≤◌, ◌-◌}
use Rattle.tree_write.proofs.fill.Given as goal

abbrev pub invariant-loop-i : goal.invariant-loop-i
invariant-loop-i l = (l.i ≤ l.many) × (l.many ≡ many (length l.records)) × (length l.out ≡ length l.initial.out)
    × (measured true l.h l.bytes 0 0 (records_of l.records) ≡ measured true l.h l.bytes l.i l.at (drop l.i (records_of l.records)))
    × (sets l.initial.out 0 (written l.h l.bytes (records_of l.records)) ≡ sets l.out l.at (written l.h l.bytes (drop l.i (records_of l.records))))
