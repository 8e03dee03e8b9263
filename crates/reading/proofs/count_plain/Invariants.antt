-- `reading::count_plain` meets its contract. Assumes nothing.
use Prim.Native.Nat.{◌≤◌, ◌-◌}
use mathlib.Core.Path.{◌≡◌}
use lib.ListN.{length}
use Rattle.ground.specs.Verdict.{most_records}
use Rattle.reading.specs.Lengths.{place_of, Lengths}
use Rattle.reading.specs.Listing.{listing, tally}
use Rattle.reading.proofs.Laws.{rest_at}
use Rattle.reading.proofs.count_plain.Given as goal

abbrev pub invariant-loop-at : goal.invariant-loop-at
invariant-loop-at l =
    (l.n ≤ most_records)
    × (tally 0 (listing l.h l.s) ≡ tally l.n (rest_at l.h l.s l.at l.n)) × (length l.lengths ≡ length l.initial.lengths) × (l.at ≡ place_of l.h l.s l.n) × Lengths l.h l.s l.lengths

abbrev pub decreases-loop-at : goal.decreases-loop-at
decreases-loop-at l = most_records - l.n
