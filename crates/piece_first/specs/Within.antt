-- One of the first eight bytes of an entry, for a state of any number of bytes. Assumes nothing.
use Rattle.std.specs.Prelude.{ℕ, ltb}
use Rattle.ground.specs.Basics.{pick}
use Rattle.ground.specs.Verdict.{most_bytes}
use Rattle.arriving.specs.Feed.{head_step}
use Rattle.arriving.specs.declared.Check.{Check}

-- where fewer than the most bytes have come; else nothing changes
unfoldable pub first_within : Check → ℕ → ℕ → Check
first_within c k b = pick (ltb c.marks.at most_bytes) (head_step c k b) c
