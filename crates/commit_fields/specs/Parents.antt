-- The parents' lines from a place on, each of 2H + 8 bytes (docs/FORMAT.md, "Commits"). Assumes nothing.
use Rattle.std.specs.Prelude.{ℕ, zero, suc, ◌+◌, ◌-◌, ◌*◌, Bool, List, [], ◌∷◌, length}
use Rattle.ground.specs.Basics.{pick}
use Rattle.commit_line.specs.Line.{id_at}
use Rattle.header.specs.Words.{parent_word}

-- a parent's line stands at a place
unfoldable pub parent_at : ℕ → List ℕ → ℕ → Bool
parent_at h s at = id_at parent_word h s at

-- how many stand there one after another, at most `left`
unfoldable pub parents_from : ℕ → ℕ → List ℕ → ℕ → ℕ
parents_from zero h s at = 0
parents_from (suc left) h s at = pick (parent_at h s at) (suc (parents_from left h s (at + (8 + 2 * h)))) 0

-- how many follow where n are counted: no more than there are bytes can come
unfoldable pub rest_parents : ℕ → List ℕ → ℕ → ℕ → ℕ
rest_parents h s at n = parents_from (length s - n) h s at

abbrev pub parent_count : ℕ → List ℕ → ℕ → ℕ
parent_count h s at = rest_parents h s at 0

-- where the hex digits of n parents start
unfoldable pub parent_starts : ℕ → ℕ → ℕ → List ℕ
parent_starts zero h at = []
parent_starts (suc n) h at = (at + 7) ∷ parent_starts n h (at + (8 + 2 * h))
