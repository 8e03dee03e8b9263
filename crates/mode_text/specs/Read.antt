-- How the text of a mode is read (docs/FORMAT.md, "Modes"). Assumes nothing.
use Rattle.std.specs.Prelude.{ℕ, ◌+◌, ◌-◌, ◌*◌, ◌%◌, Bool, ◌&&◌, not, List, [], ◌∷◌, length, get_or, take, drop, eqb, ltb, leb, None, Option, Some}
use Rattle.ground.specs.Basics.{pick}
use Rattle.ground.specs.Scan.{count_to}

-- one of the bytes `0` to `7`
abbrev pub is_octal : ℕ → Bool
is_octal b = leb 48 b && leb b 55

-- the number that octal digits say after those already summed, of which 16 bits are kept; a byte that is no digit spoils it
unfoldable pub octal_from : ℕ → List ℕ → Option ℕ
octal_from sum [] = Some sum
octal_from sum (b ∷ bs) = pick (is_octal b) (octal_from ((sum * 8 + (b - 48)) % 0o200000) bs) None

-- a space stands at byte 6 and none at byte 5
unfoldable pub has_six : List ℕ → Bool
has_six i = eqb (get_or i 6 0) 32 && not (eqb (get_or i 5 0) 32)

-- the text is then the first six bytes; otherwise it runs to the first space, or to the end where there is none
unfoldable pub text_len : List ℕ → ℕ
text_len i = pick (has_six i) 6 (count_to 32 i)

-- 16384 from a text that begins with `0` is kept as 49152
unfoldable pub settle : ℕ → ℕ → ℕ
settle v first = pick (eqb v 16384 && eqb first 48) 49152 v

-- the rest begins behind the space; where no space ends the text, at byte 1
unfoldable pub rest_at : ℕ → ℕ → ℕ
rest_at n len = pick (ltb n len) (n + 1) 1

-- a number from the digits gives 16 bits, with the text's first byte and the rest's place
abbrev pub text_of : ℕ → ℕ → Option ℕ → Option (ℕ × ℕ)
text_of first rest (Some v) = Some (settle v first, rest)
text_of first rest None = None

-- there is at least one byte, the text has at most seven, and all of those are octal digits
unfoldable pub read_text : List ℕ → Option (ℕ × ℕ)
read_text i =
    pick (ltb 0 (length i) && leb (text_len i) 7)
    (text_of (get_or i 0 0) (rest_at (text_len i) (length i)) (octal_from 0 (take (text_len i) i)))
    None

-- the rest's place counted from further back
abbrev pub moved : ℕ → Option (ℕ × ℕ) → Option (ℕ × ℕ)
moved at (Some (m, n)) = Some (m, at + n)
moved at None = None

-- the same from a place on: the rest's place is one of the whole
unfoldable pub read_text_at : List ℕ → ℕ → Option (ℕ × ℕ)
read_text_at s at = moved at (read_text (drop at s))
