-- Two elements of an index that name the same id: what the private functions that look through it say. Assumes nothing.
use Rattle.std.specs.Prelude.{ℕ, ◌/◌, Bool, List, take, drop}
use Rattle.ground.specs.Scan.{same_bytes}

-- two elements name the same id
abbrev pub same_short : List ℕ → ℕ → ℕ → ℕ → Bool
same_short s h x y = same_bytes (take h (drop (x / 2) s)) (take h (drop (y / 2) s))
