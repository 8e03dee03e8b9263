-- What decimal digits say (docs/FORMAT.md, "Loose headers"). Assumes nothing.
use Rattle.std.specs.Prelude.{ℕ, ◌+◌, ◌-◌, ◌*◌, Bool, true, ◌&&◌, List, [], ◌∷◌, leb}

-- the number that decimal digits say, read from the left after some that said a number
unfoldable pub said_after : ℕ → List ℕ → ℕ
said_after n [] = n
said_after n (d ∷ ds) = said_after (n * 10 + (d - 48)) ds

-- every byte is a digit
unfoldable pub are_digits : List ℕ → Bool
are_digits [] = true
are_digits (d ∷ ds) = (leb 48 d && leb d 57) && are_digits ds
