-- Each way is the other's inverse (`proofs/Inverse.antt` proves it). Assumes nothing.
use Rattle.std.specs.Prelude.{ℕ, ◌<◌, ◌≤◌, ◌≡◌, List, [], ◌∷◌, length}
use Rattle.ground.specs.Verdict.{counted, most_bytes}
use Rattle.hex_digits.specs.Hex.{lower_hex}
use Rattle.id_of_hex.specs.Id.{bytes_of, id_answer}
use Rattle.hex_of_id.specs.Hex.{hex_of, hex_answer}

-- each number is a byte
abbrev pub Bytes : List ℕ → Type 0
Bytes [] = Unit {0}
Bytes (b ∷ bs) = (b < 256) × Bytes bs

-- The digits given for an id are all counted, in lower case, and taken again, with room for it, they are the id.
abbrev pub IdBack : Type 0
IdBack =
    (id : List ℕ) (room n back : ℕ) → Bytes id → hex_answer id room ≡ counted n → length id ≤ back → back ≤ most_bytes
    → (n ≡ length (hex_of id)) × (lower_hex (hex_of id) ≡ hex_of id) × (id_answer (hex_of id) back ≡ counted (length id)) × (bytes_of (hex_of id) ≡ id)

-- The id that digits say is counted whole, and it gives them again, with room for them, in lower case.
abbrev pub HexBack : Type 0
HexBack =
    (d : List ℕ) (room n back : ℕ) → id_answer d room ≡ counted n → length d ≤ back → back ≤ most_bytes
    → (n ≡ length (bytes_of d)) × (hex_answer (bytes_of d) back ≡ counted (length d)) × (hex_of (bytes_of d) ≡ lower_hex d)
