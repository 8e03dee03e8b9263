-- Where whole entries may be taken, and the marks after them. Assumes nothing.
use Rattle.std.specs.Prelude.{ℕ, ◌+◌, Bool, false, ◌&&◌, List, eqb, ltb, leb, replicate}
use Rattle.ground.specs.Basics.{pick}
use Rattle.ground.specs.Verdict.{verdict, fine, most_bytes}
use Rattle.ground.specs.declared.Verdict.{Verdict}
use Rattle.arriving.specs.Feed.{most_held, fresh}
use Rattle.arriving.specs.declared.Last.{Last}
use Rattle.arriving.specs.declared.Phase.{Phase}
use Rattle.arriving.specs.declared.Phase.TheVariants.{Head, Name, Id}
use Rattle.arriving.specs.declared.Marks.{Marks}
use Rattle.arriving.specs.declared.Taken.{Taken}
use Rattle.piece_run.specs.declared.Run.{Run}

-- none of an entry's first bytes has come
abbrev pub is_next : Phase → Bool
is_next (Head k) = eqb k 0
is_next (Name l) = false
is_next (Id l left) = false

-- nothing is refused
abbrev pub is_fine : Verdict → Bool
is_fine v = eqb v.number 0 && eqb v.place 0 && eqb v.part 0

-- there is an entry before, whose name can be held
abbrev pub is_after : Last → Bool
is_after last = ltb 0 last.size && leb last.size most_held

-- an entry begins at a place, and so many bytes more keep the bound
abbrev pub is_first : ℕ → ℕ → ℕ → Bool
is_first at first left = eqb first at && leb (at + left) most_bytes

-- an entry begins that may be taken at once, where so many bytes are left in the piece
unfoldable pub is_between : Marks → ℕ → Bool
is_between m left = is_next m.phase && is_fine m.verdict && is_after m.last && is_first m.at m.first left && ltb 8 m.h

-- an entry's first bytes are cleared where entries were taken
abbrev pub head_after : List ℕ → ℕ → ℕ → List ℕ
head_after head i next = pick (eqb next i) head (replicate 8 0)

-- the marks after some entries, so many bytes in all
abbrev pub marks_after : Marks → ℕ → ℕ → Run → Marks
marks_after m at i t =
    record {
      verdict = fine;
      h = m.h;
      rules = m.rules;
      at = at;
      first = at;
      count = t.count;
      last = t.last;
      ended = t.ended;
      head = head_after m.head i t.next;
      phase = Head 0;
    }

-- and the place of the next byte: 17 is settled with all the bytes of a piece, or the check goes on
unfoldable pub ran_of : Marks → ℕ → ℕ → ℕ → Run → Taken
ran_of m at all i t =
    pick t.double (record { marks = fresh m.h m.rules (verdict 17 at); next = all }) (record { marks = marks_after m at i t; next = t.next })
