-- Hex digits (docs/FORMAT.md, "Hex"). Assumes nothing.
use Rattle.std.specs.Prelude.{ℕ, ◌+◌, ◌-◌, Bool, true, ◌&&◌, not, List, [], ◌∷◌, map, eqb, leb, get_or}
use Rattle.ground.specs.Basics.{pick, ascii}

-- the value of a hex digit of either case, 255 for another byte
unfoldable pub hex_value : ℕ → ℕ
hex_value b =
    pick (leb 48 b && leb b 57) (b - 48)
    (pick (leb 65 b && leb b 70) (b - 55)
    (pick (leb 97 b && leb b 102) (b - 87) 255))

-- each byte is a hex digit
abbrev pub is_hex : List ℕ → Bool
is_hex [] = true
is_hex (b ∷ bs) = not (eqb (hex_value b) 255) && is_hex bs

-- `A` to `F` become `a` to `f`
unfoldable pub lower_digit : ℕ → ℕ
lower_digit b = pick (leb 65 b && leb b 70) (b + 32) b

-- the digits of an id in lower case
abbrev pub lower_hex : List ℕ → List ℕ
lower_hex d = map lower_digit d

-- the digit of a number below 16, in lower case
unfoldable pub digit_of : ℕ → ℕ
digit_of x = get_or (ascii "0123456789abcdef") x 0
