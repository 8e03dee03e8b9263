-- The answer of a comparison, and what was lent afterwards, by the list and the bytes that are lent. Assumes nothing.
use Rattle.std.specs.Prelude.{ℕ, List, length}
use Rattle.ground.specs.declared.Answer.{Answer}
use Rattle.walk.specs.Lent.{items_in}
use Rattle.difference.specs.Whole.{answer, items_after, paths_after}

-- the answer
abbrev pub compare_answered : List ℕ → List ℕ → List ℕ → List ℕ → List ℕ → Answer
compare_answered s left right items paths = answer s left right (length paths) (items_in (length items))

-- the items, and the bytes of their paths
abbrev pub compare_items : List ℕ → List ℕ → List ℕ → List ℕ → List ℕ → List ℕ
compare_items s left right items paths = items_after s left right (length paths) items

abbrev pub compare_paths : List ℕ → List ℕ → List ℕ → List ℕ → List ℕ → List ℕ
compare_paths s left right items paths = paths_after s left right paths (items_in (length items))
