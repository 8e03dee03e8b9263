-- An extra header, folded or on one line (docs/FORMAT.md, "Commits"). Assumes nothing.
use Rattle.std.specs.Prelude.{ℕ, ◌+◌, Bool, true, false, ◌&&◌, List, [], ◌∷◌, length, drop, eqb, ltb, None, Option, Some}
use Rattle.ground.specs.Basics.{pick}
use Rattle.ground.specs.Scan.{count_to, place_from}
use Rattle.header.specs.Record.{header_of}
use Rattle.header.specs.declared.HeaderRecord.{HeaderRecord}

-- the place after the lines in front that start with a space, inside one or not, and the start where the last has no LF
unfoldable pub fold_from : Bool → ℕ → ℕ → List ℕ → ℕ
fold_from false start at [] = at
fold_from false start at (b ∷ bs) = pick (eqb b 32) (fold_from true start (at + 1) bs) at
fold_from true start at [] = start
fold_from true start at (b ∷ bs) = pick (eqb b 10) (fold_from false start (at + 1) bs) (fold_from true start (at + 1) bs)

-- where the lines from a place on that start with a space end
unfoldable pub fold_end : List ℕ → ℕ → ℕ
fold_end s start = fold_from false start start (drop start s)

-- a header whose name ends at a space and whose first line ends at lf: folded where lines follow that fold it, else one line
unfoldable pub folded_or : ℕ → ℕ → ℕ → ℕ → Option (HeaderRecord × ℕ)
folded_or at space lf end =
    pick (ltb (lf + 1) end) (Some (header_of at space (space + 1) end 1, end)) (Some (header_of at space (space + 1) lf 0, lf + 1))

-- at a place: a name of one or more bytes up to a space, with no LF before it, and the line's LF
unfoldable pub extra_at : List ℕ → ℕ → Option (HeaderRecord × ℕ)
extra_at s at =
    pick (ltb at (place_from 32 s at) && ltb (place_from 32 s at) (place_from 10 s at) && ltb (place_from 10 s at) (length s))
    (folded_or at (place_from 32 s at) (place_from 10 s at) (fold_end s (place_from 10 s at + 1)))
    None

-- a first line and one or more lines that start with a space, each with its LF, and nothing after
unfoldable pub folded_form : List ℕ → Bool
folded_form v =
    ltb (count_to 10 v) (length v) && ltb (count_to 10 v + 1) (fold_end v (count_to 10 v + 1)) && eqb (fold_end v (count_to 10 v + 1)) (length v)
