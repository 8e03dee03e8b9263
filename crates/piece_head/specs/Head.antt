-- One of the first eight bytes of an entry, where the next byte has a place: the marks after it, and the bytes that stand behind the mode.
-- Assumes nothing.
use Rattle.std.specs.Prelude.{ℕ, ◌+◌, ◌-◌, ◌&&◌, List, eqb, ltb, leb, set, take, None, Option, Some}
use Rattle.ground.specs.Basics.{pick}
use Rattle.ground.specs.Verdict.{verdict, broken, most_records}
use Rattle.mode.specs.Mode.{is_tree}
use Rattle.mode.specs.Read.{read_mode}
use Rattle.rules.specs.Rules.{is_text, modes_of}
use Rattle.arriving.specs.Feed.{refuse, placed_at}
use Rattle.arriving.specs.declared.Stand.TheVariants.{Level}
use Rattle.arriving.specs.declared.Phase.TheVariants.{Head, Name}
use Rattle.arriving.specs.declared.Marks.{Marks}
use Rattle.arriving.specs.declared.Taken.{Taken}
use Rattle.mode.specs.declared.EntryMode.{EntryMode}

-- these marks, and the place among the eight bytes of the first that is the name's
abbrev pub from : Marks → ℕ → Taken
from m n = record { marks = m; next = n }

-- the name begins n bytes past the entry's first, eight bytes before the place
abbrev pub begun_at : Marks → ℕ → List ℕ → ℕ → ℕ → Marks
begun_at m at head mode n =
    placed_at m (at - 8 + n) head
    (Name (record { written = is_text (modes_of m.rules) (take (n - 1) head); folder = is_tree mode; size = 0; shared = 0; stand = Level }))

-- the mode is decided
unfoldable pub begin_at : Marks → ℕ → List ℕ → Option (EntryMode × ℕ) → Taken
begin_at m at head (Some (k, n)) = from (begun_at m at head k.internal n) n
begin_at m at head None = from (refuse m (broken m.first 1)) 8

-- one of the first eight bytes, of which k are there; 2 where an entry begins after the most entries
unfoldable pub head_at : Marks → ℕ → ℕ → ℕ → Taken
head_at m at k b =
    pick (eqb k 0 && leb most_records m.count) (from (refuse m (verdict 2 0)) 8)
    (pick (ltb k 7) (from (placed_at m at (set m.head k b) (Head (k + 1))) 8) (begin_at m at (set m.head 7 b) (read_mode (set m.head 7 b))))
