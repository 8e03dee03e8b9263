-- `reading::fill` meets its contract. Assumes nothing.
use Prim.Native.Nat.{◌-◌, ◌*◌}
use mathlib.Core.Path.{◌≡◌}
use lib.ListN.{length, take}
use lib.Seq.{sets}
use Rattle.entry.specs.Record.{width}
use Rattle.reading.specs.Lengths.{place_of}
use Rattle.reading.specs.Listing.{listing, records_in, flats}
use Rattle.reading.proofs.Laws.{rest_at}
use Rattle.reading.proofs.fill.Given as goal

abbrev pub invariant-loop-n : goal.invariant-loop-n
invariant-loop-n l =
    (length l.records ≡ length l.initial.records)
    × (sets l.initial.records 0 (flats (take l.count (records_in (listing l.h l.s))))
    ≡ sets l.records (l.n * width) (flats (take (l.count - l.n) (records_in (rest_at l.h l.s l.at l.n)))))
    × (l.at ≡ place_of l.h l.s l.n)
