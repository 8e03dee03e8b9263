-- How a mode is written (docs/FORMAT.md, "Modes"). Assumes nothing.
use Rattle.std.specs.Prelude.{ℕ, ◌+◌, ◌-◌, ◌/◌, ◌%◌, ◌&&◌, List, [], ◌∷◌, ◌++◌, length, take, drop, replicate, get_or, eqb, ltb}
use Rattle.ground.specs.Basics.{pick}
use Rattle.mode_text.specs.declared.ShortText.{ShortText}

-- the six octal digits of 16 bits, the highest first
abbrev pub six_digits : ℕ → List ℕ
six_digits m =
    (48 + m / 0o100000 % 8)
    ∷ (48 + m / 0o10000 % 8)
    ∷ (48 + m / 0o1000 % 8)
    ∷ (48 + m / 0o100 % 8)
    ∷ (48 + m / 0o10 % 8)
    ∷ (48 + m % 8)
    ∷ []

-- where the second digit is `4`, the first is left out if it is `0`, and is made `0` if it is `1`
unfoldable pub trimmed : List ℕ → List ℕ
trimmed ds = pick (eqb (get_or ds 1 0) 52) (pick (eqb (get_or ds 0 0) 48) (drop 1 ds) (48 ∷ drop 1 ds)) ds

-- mode 0 is `0`, any other its digits so trimmed
unfoldable pub write_mode : ℕ → List ℕ
write_mode m = pick (eqb m 0) (48 ∷ []) (trimmed (six_digits m))

-- the mode that a written text reads as: the one it was written for, but those from 49153 to 53247 lose their highest bit
unfoldable pub again : ℕ → ℕ
again m = pick (ltb 49152 m && ltb m 53248) (m - 32768) m

-- a text laid into six bytes, with 0 behind it, and its length
abbrev pub short : List ℕ → ShortText
short t = record { bytes = t ++ replicate (6 - length t) 0; len = length t }

-- the bytes that a short text shows
abbrev pub shown : ShortText → List ℕ
shown t = take t.len t.bytes

-- a mode's text so laid
unfoldable pub mode_text : ℕ → ShortText
mode_text m = short (write_mode m)
