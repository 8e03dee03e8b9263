-- The answer at the end of a check in pieces whose state a caller lends. Assumes nothing.
use Rattle.std.specs.Prelude.{ℕ, List}
use Rattle.ground.specs.declared.Answer.{Answer}
use Rattle.arriving.specs.Feed.{finish_of}
use Rattle.piece_state.specs.State.{marks_said}

-- by the numbers of the marks and the entry's first bytes
abbrev pub end_said : List ℕ → List ℕ → Answer
end_said marks first = finish_of (marks_said marks first)
