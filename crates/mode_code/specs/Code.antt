-- The mode at the front of an entry, and the length of its text, as one number. Assumes nothing.
use Rattle.std.specs.Prelude.{ℕ, ◌+◌, ◌*◌, List, [], ◌∷◌, ◌++◌, length, take, drop, leb, None, Option, Some}
use Rattle.ground.specs.Basics.{pick}
use Rattle.ground.specs.Scan.{same_bytes}
use Rattle.mode.specs.Read.{read_mode}
use Rattle.mode_table.specs.Table.{rows}
use Rattle.mode_text.specs.Write.{shown}
use Rattle.mode_table.specs.declared.Written.{Written}
use Rattle.mode.specs.declared.EntryMode.{EntryMode}

-- a mode and how many bytes its text takes with the space, as one number
abbrev pub coded : ℕ → ℕ → ℕ
coded m n = m * 16 + n

-- what was read as such a number: 0 where no mode can be read
abbrev pub code_of : Option (EntryMode × ℕ) → ℕ
code_of (Some (m, n)) = coded m.internal n
code_of None = 0

-- the code of the mode at a place: past the end there is none
unfoldable pub code_at : List ℕ → ℕ → ℕ
code_at s at = code_of (read_mode (drop at s))

-- a row's text as it stands in a tree, with the space behind it
abbrev pub spaced : Written → List ℕ
spaced r = shown r.text ++ 32 ∷ []

-- the code of the first of some rows whose text and space stand at the front of the bytes; 0 where there is none
unfoldable pub code_in : List Written → List ℕ → ℕ
code_in [] b = 0
code_in (r ∷ rs) b = pick (same_bytes (take (length (spaced r)) b) (spaced r)) (coded r.mode (length (spaced r))) (code_in rs b)

-- the code of one of the five written modes at a place from which seven bytes are there, and 0 otherwise
unfoldable pub quick_at : List ℕ → ℕ → ℕ
quick_at s at = pick (leb (at + 7) (length s)) (code_in rows (drop at s)) 0
