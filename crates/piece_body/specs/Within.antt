-- A byte past the mode, for a state of any number of bytes. Assumes nothing.
use Rattle.std.specs.Prelude.{ℕ, ltb}
use Rattle.ground.specs.Basics.{pick}
use Rattle.arriving.specs.Feed.{body}
use Rattle.arriving.specs.declared.Check.{Check}

-- where fewer than 4,294,967,296 bytes have come; else nothing changes
unfoldable pub body_within : Check → ℕ → Check
body_within c b = pick (ltb c.marks.at 4294967296) (body c b) c
