-- What a lent output has after an id or its digits were to be written to it. Assumes nothing.
use Rattle.std.specs.Prelude.{List, ℕ, length}
use Rattle.ground.specs.Verdict.{stored}
use Rattle.ground.specs.declared.Answer.{Answer}
use Rattle.id_of_hex.specs.Id.{bytes_of, id_answer}
use Rattle.hex_of_id.specs.Hex.{hex_of, hex_answer}

-- an id from its digits: the answer, and the output
abbrev pub id_answered : List ℕ → List ℕ → Answer
id_answered digits out = id_answer digits (length out)

abbrev pub id_output : List ℕ → List ℕ → List ℕ
id_output digits out = stored (id_answered digits out).verdict (bytes_of digits) out

-- the digits of an id: the answer, and the output
abbrev pub hex_answered : List ℕ → List ℕ → Answer
hex_answered id out = hex_answer id (length out)

abbrev pub hex_output : List ℕ → List ℕ → List ℕ
hex_output id out = stored (hex_answered id out).verdict (hex_of id) out
