-- Whole entries of a piece, one after the other. Assumes nothing.
use Rattle.std.specs.Prelude.{ℕ, zero, suc, ◌+◌, ◌-◌, true, false, List, eqb, ltb, take, Option, None, Some, Err, Ok, Result}
use Rattle.ground.specs.Basics.{pick, part}
use Rattle.ground.specs.Verdict.{most_records}
use Rattle.doubles.specs.Stack.{place_of, marks_of}
use Rattle.arriving.specs.Feed.{most_held}
use Rattle.piece_place.specs.Place.{held_after}
use Rattle.piece_seen.specs.Whole.{seen_at}
use Rattle.piece_seen.specs.declared.Seen.{Seen}
use Rattle.piece_run.specs.declared.Run.{Run}
use Rattle.doubles.specs.declared.Misplaced.{Misplaced}
use Rattle.doubles.specs.declared.Misplaced.TheVariants.{Double, NotAfter}

-- a run, with the name that is held and the lengths of the names that are open
pub record Going : Type 0 where
  pub run : Run
  pub held : List ℕ
  pub ends : List ℕ

abbrev pub going : Run → List ℕ → List ℕ → Going
going r held ends = record { run = r; held = held; ends = ends }

-- the run after an entry was placed that is seen at its place
abbrev pub run_after : Run → ℕ → Seen → Result ℕ Misplaced → Run
run_after r h e (Ok k) =
    record { next = e.end + 1 + h; count = r.count + 1; last = record { size = e.end - e.start; folder = e.folder }; ended = k; double = false }
run_after r h e (Err NotAfter) = r
run_after r h e (Err Double) = record { next = r.next; count = r.count; last = r.last; ended = r.ended; double = true }

-- a name after the last one of a run: how it is placed, and the open names afterwards
abbrev pub placed_in : Going → List ℕ → Seen → Result ℕ Misplaced
placed_in g s e = place_of g.ends g.run.ended (take g.run.last.size g.held) g.run.last.folder (part e.start e.end s) e.folder

abbrev pub open_in : Going → List ℕ → Seen → List ℕ
open_in g s e = marks_of g.ends g.run.ended (take g.run.last.size g.held) g.run.last.folder (part e.start e.end s) e.folder

-- an entry that is seen is taken, if its name stands after the last one
abbrev pub taken_in : Going → List ℕ → ℕ → Seen → Going
taken_in g s h e = going (run_after g.run h e (placed_in g s e)) (held_after (placed_in g s e) g.held (part e.start e.end s)) (open_in g s e)

abbrev pub more_by : Going → List ℕ → ℕ → Option Seen → Going
more_by g s h None = g
more_by g s h (Some e) = taken_in g s h e

-- one whole entry more, if there is one
unfoldable pub one_more : List ℕ → ℕ → Going → Going
one_more s h g = more_by g s h (seen_at s g.run.next h)

-- so many at most, as far as there are
unfoldable pub all_from : ℕ → List ℕ → ℕ → Going → Going
all_from zero s h g = g
all_from (suc n) s h g = pick (eqb (one_more s h g).run.next g.run.next) (one_more s h g) (all_from n s h (one_more s h g))

-- the whole entries from a place on, where the name before is held
unfoldable pub all_of : List ℕ → ℕ → Going → Going
all_of s h g = pick (ltb most_held g.run.last.size) g (all_from (most_records - g.run.count) s h g)
