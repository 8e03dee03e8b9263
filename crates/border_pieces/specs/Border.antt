-- The check in pieces over a state that a caller lends: what it stands for, and with a piece more. Assumes nothing.
use Rattle.std.specs.Prelude.{ℕ, List, get_or, eqb}
use Rattle.ground.specs.Basics.{pick}
use Rattle.arriving.specs.Feed.{together, feed_of}
use Rattle.arriving.specs.declared.Check.{Check}
use Rattle.piece_state.specs.State.{marks_numbers, marks_said}

-- the check that a lent state stands for: the held name, the lengths of the open names, the numbers of the marks and the entry's first bytes
abbrev pub state_of : List ℕ → List ℕ → List ℕ → List ℕ → Check
state_of held ends marks first = together held ends (marks_said marks first)

-- the check with a piece more
abbrev pub fed_of : List ℕ → List ℕ → List ℕ → List ℕ → List ℕ → Check
fed_of held ends marks first piece = feed_of (state_of held ends marks first) piece

-- the numbers of its marks; after a refusal they stay as they are lent
abbrev pub fed_numbers : List ℕ → List ℕ → List ℕ → List ℕ → List ℕ → List ℕ
fed_numbers held ends marks first piece = pick (eqb (get_or marks 0 0) 0) (marks_numbers (fed_of held ends marks first piece).marks) marks
