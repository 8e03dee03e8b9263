-- The whole entry at a place of a piece. Assumes nothing.
use Rattle.std.specs.Prelude.{ℕ, ◌+◌, ◌-◌, ◌/◌, ◌%◌, List, eqb, ltb, leb, length, Option, None, Some}
use Rattle.ground.specs.Basics.{pick, part}
use Rattle.ground.specs.Scan.{place_from}
use Rattle.mode.specs.Mode.{is_tree}
use Rattle.mode_code.specs.Code.{quick_at}
use Rattle.rules.specs.Rules.{bare_number}
use Rattle.arriving.specs.Feed.{most_held}
use Rattle.piece_seen.specs.declared.Seen.{Seen}

-- an entry of a mode whose name begins and ends so: none where its id is not there, its name cannot be held, or something is said of its name
abbrev pub seen_to : List ℕ → ℕ → ℕ → ℕ → ℕ → Option Seen
seen_to s h start mode end =
    pick (leb (length s - end) h) None
    (pick (ltb most_held (end - start)) None
    (pick (eqb (bare_number (part start end s)) 0) (Some (record { start = start; end = end; folder = is_tree mode })) None))

-- an entry whose mode has a code, as `mode_code` says it
abbrev pub seen_by : List ℕ → ℕ → ℕ → ℕ → Option Seen
seen_by s i h code = seen_to s h (i + code % 16) (code / 16) (place_from 0 s (i + code % 16))

-- the entry at a place, if its mode is one of the five
unfoldable pub seen_at : List ℕ → ℕ → ℕ → Option Seen
seen_at s i h = pick (eqb (quick_at s i) 0) None (seen_by s i h (quick_at s i))
