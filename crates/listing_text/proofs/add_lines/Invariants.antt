-- `listing_text::add_lines` meets its contract. Assumes nothing.
use mathlib.Core.Path.{◌≡◌}
use Prim.Native.Nat.{◌+◌, ◌-◌, ◌*◌, ◌≤◌}
use lib.ListN.{length, drop}
use Rattle.entry.specs.Record.{many, records_of}
use Rattle.listing_text.specs.Text.{lines}
use Rattle.listing_text.proofs.Laws.{Rest}
use Rattle.listing_text.proofs.add_lines.Given as goal

abbrev pub invariant-loop-i : goal.invariant-loop-i
invariant-loop-i l =
    (length l.out ≡ length l.initial.out) × (l.n ≡ many (length l.records)) × (l.i ≤ l.n) × (l.p ≤ l.at + l.i * 65664) × Rest l.initial.out l.at (lines l.h l.s (records_of l.records)) l.out l.p
    (lines l.h l.s (drop l.i (records_of l.records)))
