-- Some bytes of a name against the held one. Assumes nothing.
use Rattle.std.specs.Prelude.{ℕ, ◌+◌, ◌-◌, min, List, eqb, ltb, length, get_or, take}
use Rattle.ground.specs.Basics.{pick, part}
use Rattle.ground.specs.Scan.{count_to, common_start}
use Rattle.arriving.specs.Feed.{most_held, meet, line_at}
use Rattle.arriving.specs.declared.Stand.{Stand}
use Rattle.arriving.specs.declared.Stand.TheVariants.{Level, Over, NotOver}
use Rattle.arriving.specs.declared.Last.{Last}
use Rattle.arriving.specs.declared.Line.{Line}
use Rattle.piece_name.specs.declared.Stood.{Stood}

-- where n of some bytes are level, up to a place: the byte after them decides, if there is one
abbrev pub differs_of : List ℕ → Last → ℕ → ℕ → List ℕ → ℕ → Stood
differs_of held last at shared bs n =
    pick (ltb n (length bs)) (record { stand = meet Level last at (get_or held at 0) (get_or bs n 0); shared = shared })
    (record { stand = Level; shared = shared })

-- where they share so many with the held name from a place on
abbrev pub shared_of : List ℕ → Last → ℕ → ℕ → List ℕ → ℕ → Stood
shared_of held last size shared bs n = differs_of held last (size + n) (pick (eqb n 0) shared (size + n)) bs n

-- a name that is level so far
unfoldable pub level_of : List ℕ → Last → ℕ → ℕ → List ℕ → Stood
level_of held last size shared bs = shared_of held last size shared bs (common_start (part size (min last.size (length held)) held) bs)

-- any name: the first difference decides
abbrev pub stand_of : List ℕ → Last → Stand → ℕ → ℕ → List ℕ → Stood
stand_of held last Level size shared bs = level_of held last size shared bs
stand_of held last Over size shared bs = record { stand = Over; shared = shared }
stand_of held last NotOver size shared bs = record { stand = NotOver; shared = shared }

-- those of some bytes that are a name's: those before a NUL, and no more than can be held
abbrev pub name_more : Line → List ℕ → List ℕ
name_more l bs = take (min (most_held - l.size) (count_to 0 bs)) bs

-- the entry's line after them
abbrev pub line_of : Line → ℕ → Stood → Line
line_of l n x = line_at l (l.size + n) x.shared x.stand

unfoldable pub name_some : List ℕ → Last → Line → List ℕ → Line
name_some held last l bs =
    line_of l (length (name_more l bs)) (stand_of held last l.stand l.size l.shared (name_more l bs))
