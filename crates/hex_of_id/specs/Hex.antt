-- Ids as hex digits (docs/FORMAT.md, "Hex"). Assumes nothing.
use Rattle.std.specs.Prelude.{ℕ, ◌*◌, ◌/◌, ◌%◌, List, [], ◌∷◌, length}
use Rattle.ground.specs.Verdict.{counted, gate_of}
use Rattle.ground.specs.declared.Answer.{Answer}
use Rattle.output.specs.Output.{fitted, gated}
use Rattle.hex_digits.specs.Hex.{digit_of}

-- two digits for each byte, the higher one first
unfoldable pub hex_of : List ℕ → List ℕ
hex_of [] = []
hex_of (b ∷ bs) = digit_of (b / 16) ∷ digit_of (b % 16) ∷ hex_of bs

-- the digits of an id: 1 where it has not H bytes, then 2, and 8 with the digits needed
unfoldable pub hex_answer : List ℕ → ℕ → Answer
hex_answer id room = gated (gate_of (length id) room 0) (fitted room (counted (2 * length id)))
