-- `listing_text::add_hex` meets its contract. Assumes nothing.
use mathlib.Core.Path.{◌≡◌}
use Prim.Native.Nat.{◌+◌, ◌-◌, ◌*◌, ◌≤◌}
use lib.ListN.{length, drop}
use Rattle.hex_of_id.specs.Hex.{hex_of}
use Rattle.listing_text.proofs.Laws.{Rest}
use Rattle.listing_text.proofs.add_hex.Given as goal

abbrev pub invariant-loop-b : goal.invariant-loop-b
invariant-loop-b l =
    (length l.out ≡ length l.initial.out) × (l.b-index ≤ length l.bytes) × (l.p ≡ l.at + l.b-index * 2) × Rest l.initial.out l.at (hex_of l.bytes) l.out l.p (hex_of (drop l.b-index l.bytes))
