-- The lines of a commit that begin with a word (docs/FORMAT.md, "Commits"). Assumes nothing.
use Rattle.std.specs.Prelude.{ℕ, ◌+◌, ◌*◌, Bool, ◌&&◌, List, length, get_or, eqb, ltb, None, Option, Some}
use Rattle.ground.specs.Basics.{pick, part}
use Rattle.ground.specs.Scan.{place_from, same_bytes}
use Rattle.hex_digits.specs.Hex.{is_hex}

-- at a place stand the word and one space
unfoldable pub word_at : List ℕ → List ℕ → ℕ → Bool
word_at word s at = eqb (get_or s (at + length word) 0) 32 && same_bytes (part at (at + length word) s) word

-- at a place stand 2H hex digits and LF
unfoldable pub id_from : ℕ → List ℕ → ℕ → Bool
id_from h s from = eqb (get_or s (from + 2 * h) 0) 10 && is_hex (part from (from + 2 * h) s)

-- at a place stand the word, a space, 2H hex digits and LF
unfoldable pub id_at : List ℕ → ℕ → List ℕ → ℕ → Bool
id_at word h s at = word_at word s at && id_from h s (at + length word + 1)

-- the value from a place up to LF, if there is an LF
unfoldable pub line_from : List ℕ → ℕ → Option (ℕ × ℕ)
line_from s from = pick (ltb (place_from 10 s from) (length s)) (Some (from, place_from 10 s from)) None

-- at a place stand the word, a space, and a value up to LF
unfoldable pub line_at : List ℕ → List ℕ → ℕ → Option (ℕ × ℕ)
line_at word s at = pick (word_at word s at) (line_from s (at + length word + 1)) None
