-- A path's components (docs/FORMAT.md, "Paths"). Assumes nothing.
use Rattle.std.specs.Prelude.{ℕ, Bool, true, ◌&&◌, List, [], ◌∷◌, length, eqb, leb}
use Rattle.ground.specs.Basics.{pick}

-- a byte put before the first of some pieces
unfoldable pub on_head : ℕ → List (List ℕ) → List (List ℕ)
on_head x [] = (x ∷ []) ∷ []
on_head x (c ∷ cs) = (x ∷ c) ∷ cs

-- what stands between the slashes of some bytes; nothing is trimmed
unfoldable pub pieces : List ℕ → List (List ℕ)
pieces [] = [] ∷ []
pieces (x ∷ xs) = pick (eqb x 47) ([] ∷ pieces xs) (on_head x (pieces xs))

-- the empty path has no components
abbrev pub components : List ℕ → List (List ℕ)
components [] = []
components (x ∷ xs) = pieces (x ∷ xs)

-- no component is empty
unfoldable pub filled : List (List ℕ) → Bool
filled [] = true
filled (c ∷ cs) = leb 1 (length c) && filled cs

-- the most components of a path
abbrev pub most_components : ℕ
most_components = 64

-- no component is empty, and there are not too many
unfoldable pub is_path : List (List ℕ) → Bool
is_path cs = filled cs && leb (length cs) most_components
