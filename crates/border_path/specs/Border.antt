-- How the answer of a path lies in the numbers that a caller lends. Assumes nothing.
use Rattle.std.specs.Prelude.{ℕ, List, [], ◌∷◌, ◌++◌}
use Rattle.path_walk.specs.declared.Followed.{Followed}
use Rattle.border.specs.Border.{verdict_numbers}

-- the verdict, mode, length of the id
abbrev pub followed_numbers : Followed → List ℕ
followed_numbers r = verdict_numbers r.verdict ++ r.mode ∷ r.size ∷ []
