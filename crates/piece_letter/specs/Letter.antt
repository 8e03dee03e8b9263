-- An entry with one byte more of its name, and the marks with it. Assumes nothing.
use Rattle.std.specs.Prelude.{ℕ}
use Rattle.arriving.specs.Feed.{placed_at, meet, sharing, line_at}
use Rattle.arriving.specs.declared.Last.{Last}
use Rattle.arriving.specs.declared.Line.{Line}
use Rattle.arriving.specs.declared.Phase.TheVariants.{Name}
use Rattle.arriving.specs.declared.Marks.{Marks}

-- the entry's line with the byte b more, so many in all, where the held name has x
abbrev pub line_over : Line → Last → ℕ → ℕ → ℕ → Line
line_over l last size x b = line_at l size (sharing (meet l.stand last l.size x b) size l.shared) (meet l.stand last l.size x b)

-- the marks with it, so many bytes in all
abbrev pub letter_of : Marks → ℕ → Line → ℕ → ℕ → ℕ → Marks
letter_of m at l size x b = placed_at m at m.head (Name (line_over l m.last size x b))
