-- What refuses an encoding that is to be written (docs/FORMAT.md, "Commit writing"). Assumes nothing.
use Rattle.std.specs.Prelude.{ℕ, [], ◌∷◌}
use Rattle.ground.specs.Basics.{pick}
use Rattle.ground.specs.Scan.{free_of}
use Rattle.grammar.specs.Grammar.{Encoding, absent, given}

-- the number that refuses an encoding, or 0: 13 where it is empty, 14 where it has an LF
unfoldable pub encoding_refusal : Encoding → ℕ
encoding_refusal absent = 0
encoding_refusal (given []) = 13
encoding_refusal (given (b ∷ bs)) = pick (free_of 10 (b ∷ bs)) 0 14
