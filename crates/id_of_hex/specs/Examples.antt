-- Digits as ids, computed. Assumes nothing.
use Rattle.std.specs.Prelude.{◌≡◌, refl, [], ◌∷◌, replicate}
use Rattle.ground.specs.Basics.{ascii}
use Rattle.ground.specs.Verdict.{verdict, counted, refused, id_length, size_gate, gate_of}
use Rattle.output.specs.Output.{fitted, gated}
use Rattle.hex_digits.specs.Hex.{hex_value}
use Rattle.id_of_hex.specs.Id.{bytes_of, halved, digits_read, id_answer}

-- either case is read
pub digits_hold : bytes_of (ascii "0aF9") ≡ 10 ∷ 249 ∷ []
unfolding hex_value bytes_of
digits_hold = refl

-- digits of an id, into room enough: both lengths, one digit too many, a byte that is none, and a byte too little room
pub ids_hold :
    id_answer (replicate 40 102) 20
    ∷ id_answer (replicate 64 65) 40
    ∷ id_answer (replicate 41 102) 20
    ∷ id_answer (replicate 40 103) 0
    ∷ id_answer (replicate 40 102) 19
    ∷ []
    ≡ counted 20 ∷ counted 32 ∷ refused (verdict 1 0) ∷ refused (verdict 10 0) ∷ refused (verdict 8 20) ∷ []
unfolding id_length size_gate gate_of fitted gated hex_value halved digits_read id_answer
ids_hold = refl
