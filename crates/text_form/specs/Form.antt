-- The form of what stands before the name in one record of text: six octal digits, space, word, space, the id in lower-case hex, tab
-- (docs/FORMAT.md, "Text"). Assumes nothing.
use Rattle.std.specs.Prelude.{ℕ, ◌+◌, ◌*◌, Bool, true, ◌&&◌, ◌||◌, List, [], ◌∷◌, eqb, leb, length, get_or, take, drop}
use Rattle.ground.specs.Basics.{pick, ascii, part}
use Rattle.ground.specs.Scan.{same_bytes}

-- a byte from a to b
unfoldable pub between : ℕ → ℕ → ℕ → Bool
between a b x = leb a x && leb x b

-- a byte from a to b or from c to d
unfoldable pub within : ℕ → ℕ → ℕ → ℕ → ℕ → Bool
within a b c d x = between a b x || between c d x

-- each byte is one
unfoldable pub all_within : ℕ → ℕ → ℕ → ℕ → List ℕ → Bool
all_within a b c d [] = true
all_within a b c d (x ∷ xs) = within a b c d x && all_within a b c d xs

-- octal digits, and the digits of an id in lower case
abbrev pub all_octal : List ℕ → Bool
all_octal t = all_within 48 55 48 55 t

abbrev pub all_lower : List ℕ → Bool
all_lower t = all_within 48 57 97 102 t

-- the bytes begin with a text
abbrev pub begins : List ℕ → List ℕ → Bool
begins t b = same_bytes (take (length t) b) t

-- how many bytes the word at the front has with the space behind it; 0 where none of the three stands there
unfoldable pub word_len : List ℕ → ℕ
word_len b = pick (begins (ascii "blob ") b) 5 (pick (begins (ascii "tree ") b) 5 (pick (begins (ascii "commit ") b) 7 0))

-- how many bytes stand before the id: six octal digits, space, word, space; 0 where they are not of that form
unfoldable pub front_len : List ℕ → ℕ
front_len b =
    pick (eqb (get_or b 6 0) 32) (pick (all_octal (take 6 b)) (pick (eqb (word_len (drop 7 b)) 0) 0 (7 + word_len (drop 7 b))) 0) 0

-- how many bytes stand before the name, the id having h bytes, at most 32: those, 2h digits of an id in lower case, tab; else 0
unfoldable pub name_from : ℕ → List ℕ → ℕ
name_from h b =
    pick (leb h 32)
    (pick (eqb (front_len b) 0) 0
    (pick (eqb (get_or b (front_len b + 2 * h) 0) 9) (pick (all_lower (part (front_len b) (front_len b + 2 * h) b)) (front_len b + 2 * h + 1) 0) 0))
    0
