-- Ids as digits, computed. Assumes nothing.
use Rattle.std.specs.Prelude.{◌≡◌, refl, [], ◌∷◌, replicate}
use Rattle.ground.specs.Basics.{ascii}
use Rattle.ground.specs.Verdict.{verdict, counted, refused, id_length, size_gate, gate_of}
use Rattle.output.specs.Output.{fitted, gated}
use Rattle.hex_digits.specs.Hex.{digit_of}
use Rattle.hex_of_id.specs.Hex.{hex_of, hex_answer}

-- the lower case is given
pub digits_hold : hex_of (10 ∷ 249 ∷ []) ≡ ascii "0af9"
unfolding digit_of hex_of
digits_hold = refl

-- the digits of an id: both lengths, a byte too few, and a byte too little room
pub hex_hold : hex_answer (replicate 20 255) 40 ∷ hex_answer (replicate 32 0) 65 ∷ hex_answer (replicate 19 255) 40 ∷ hex_answer (replicate 20 255) 39 ∷ []
    ≡ counted 40 ∷ counted 64 ∷ refused (verdict 1 0) ∷ refused (verdict 8 40) ∷ []
unfolding id_length size_gate gate_of fitted gated hex_answer
hex_hold = refl
