-- The scans of bytes. Assumes nothing.
use Rattle.std.specs.Prelude.{ℕ, suc, ◌+◌, Bool, true, false, ◌&&◌, not, List, [], ◌∷◌, drop, eqb}
use Rattle.ground.specs.Basics.{pick}

-- how many bytes stand before the first x: all of them where there is none
abbrev pub count_to : ℕ → List ℕ → ℕ
count_to x [] = 0
count_to x (b ∷ bs) = pick (eqb b x) 0 (suc (count_to x bs))

-- where x stands next at or after a place, or where the bytes end
unfoldable pub place_from : ℕ → List ℕ → ℕ → ℕ
place_from x s from = from + count_to x (drop from s)

-- how many bytes two lists share at their start
unfoldable pub common_start : List ℕ → List ℕ → ℕ
common_start [] b = 0
common_start (x ∷ a) [] = 0
common_start (x ∷ a) (y ∷ b) = pick (eqb x y) (suc (common_start a b)) 0

-- two lists are the same, byte for byte
abbrev pub same_bytes : List ℕ → List ℕ → Bool
same_bytes [] [] = true
same_bytes [] (y ∷ ys) = false
same_bytes (x ∷ xs) [] = false
same_bytes (x ∷ xs) (y ∷ ys) = eqb x y && same_bytes xs ys

-- no byte of the list is x
abbrev pub free_of : ℕ → List ℕ → Bool
free_of x [] = true
free_of x (b ∷ bs) = not (eqb b x) && free_of x bs
