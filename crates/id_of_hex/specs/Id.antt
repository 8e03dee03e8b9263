-- Hex digits as ids (docs/FORMAT.md, "Hex"). Assumes nothing.
use Rattle.std.specs.Prelude.{ℕ, ◌+◌, ◌*◌, ◌/◌, ◌%◌, List, [], ◌∷◌, eqb, length}
use Rattle.ground.specs.Basics.{pick}
use Rattle.ground.specs.Verdict.{verdict, counted, refused, gate_of}
use Rattle.ground.specs.declared.Answer.{Answer}
use Rattle.output.specs.Output.{fitted, gated}
use Rattle.hex_digits.specs.Hex.{hex_value, is_hex}

-- a byte for each two digits; a last one by itself says nothing
unfoldable pub bytes_of : List ℕ → List ℕ
bytes_of [] = []
bytes_of (a ∷ []) = []
bytes_of (a ∷ b ∷ ds) = (hex_value a * 16 + hex_value b) ∷ bytes_of ds

-- the id length that so many digits have: half of them, and 0, which is none, where their number is odd
unfoldable pub halved : ℕ → ℕ
halved n = pick (eqb (n % 2) 0) (n / 2) 0

-- 10 where a byte is no hex digit, else how many bytes they say
unfoldable pub digits_read : List ℕ → Answer
digits_read d = pick (is_hex d) (counted (length d / 2)) (refused (verdict 10 0))

-- an id from its digits: 1 where they are not 2H, then 2, 10, and 8 with the bytes needed
unfoldable pub id_answer : List ℕ → ℕ → Answer
id_answer d room = gated (gate_of (halved (length d)) room 0) (fitted room (digits_read d))
