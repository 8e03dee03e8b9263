-- What strict reading says of a name (docs/FORMAT.md, "Strict reading"). Assumes nothing.
use Rattle.std.specs.Prelude.{ℕ, zero, suc, ◌+◌, Bool, not, ◌&&◌, ◌||◌, List, [], map, leb}
use Rattle.ground.specs.Basics.{pick, ascii}
use Rattle.ground.specs.Scan.{same_bytes, free_of}

-- the first number that is not 0
abbrev pub or_else : ℕ → ℕ → ℕ
or_else zero j = j
or_else (suc i) j = suc i

-- empty, or one of `.`, `..` and `.git`
abbrev pub is_reserved : List ℕ → Bool
is_reserved n = same_bytes n [] || (same_bytes n (ascii ".") || (same_bytes n (ascii "..") || same_bytes n (ascii ".git")))

-- not reserved, and free of slash
unfoldable pub is_plain : List ℕ → Bool
is_plain n = not (is_reserved n) && free_of 47 n

-- an ASCII letter in lower case, and any other byte as it is
abbrev pub lower : ℕ → ℕ
lower b = pick (leb 65 b && leb b 90) (b + 32) b

-- `.git`, each letter in either case
unfoldable pub is_dot_git : List ℕ → Bool
is_dot_git n = same_bytes (map lower n) (ascii ".git")

-- of a name that is free of slash: 6 where it is reserved; 18 for `.git` with letters in upper case
unfoldable pub reserved_number : List ℕ → ℕ
reserved_number n = or_else (pick (is_reserved n) 6 0) (pick (is_dot_git n) 18 0)

-- 6 for a name that is not plain; 18 for `.git` with letters in upper case
unfoldable pub bare_number : List ℕ → ℕ
bare_number n = or_else (pick (is_plain n) 0 6) (pick (is_dot_git n) 18 0)
