-- The lengths of names, kept by the first pass of the plain reader for the second: what is promised of them. Assumes nothing.
use Rattle.std.specs.Prelude.{ℕ, zero, suc, ◌+◌, ◌%◌, ◌≡◌, List, get_or, set, ltb}
use Rattle.ground.specs.Basics.{pick}
use Rattle.ground.specs.Scan.{place_from}
use Rattle.mode_code.specs.Code.{code_at}

-- where the name of an entry starts that begins at a place
abbrev pub name_at : List ℕ → ℕ → ℕ
name_at s at = at + code_at s at % 16

-- where entry n begins: each entry is its mode, its name, NUL and h bytes of id
unfoldable pub place_of : ℕ → List ℕ → ℕ → ℕ
place_of h s zero = 0
place_of h s (suc n) = place_from 0 s (name_at s (place_of h s n)) + 1 + h

-- a number is 0, or NUL stands next so many bytes after the place
abbrev pub Known : List ℕ → ℕ → ℕ → Type 0
Known s from len = (len ≡ 0 → ⊥) → place_from 0 s from ≡ from + len

-- each number of the list is 0, or the length of the name of the entry of its index
abbrev pub Lengths : ℕ → List ℕ → List ℕ → Type 0
Lengths h s lengths = (n : ℕ) → Known s (name_at s (place_of h s n)) (get_or lengths n 0)

-- the list with a length kept for entry n, where it is a byte's
unfoldable pub remembered : List ℕ → ℕ → ℕ → List ℕ
remembered lengths n len = pick (ltb len 256) (set lengths n len) lengths
