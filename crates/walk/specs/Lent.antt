-- Items and paths as they are lent back, and the answer by their room (docs/FORMAT.md, "Differences"). Assumes nothing.
use Rattle.std.specs.Prelude.{ℕ, ◌+◌, ◌/◌, List, [], ◌∷◌, ◌++◌, eqb, leb, length}
use Rattle.ground.specs.Basics.{pick}
use Rattle.ground.specs.Verdict.{verdict, counted, refused}
use Rattle.ground.specs.declared.Answer.{Answer}
use Rattle.item.specs.Items.{Item}
use Rattle.walk.specs.Walk.{Out}

-- all paths, with nothing between them
unfoldable pub paths_of : List Item → List ℕ
paths_of [] = []
paths_of (x ∷ xs) = x.path ++ paths_of xs

-- six numbers an item: where its path starts and ends, the modes, the places of the ids; the first path starts at a place
unfoldable pub numbers_of : ℕ → List Item → List ℕ
numbers_of at [] = []
numbers_of at (x ∷ xs) =
    at ∷ (at + length x.path) ∷ x.left.mode ∷ x.right.mode ∷ x.left.place ∷ x.right.place ∷ numbers_of (at + length x.path) xs

-- how many items lie in so many numbers
abbrev pub items_in : ℕ → ℕ
items_in numbers = numbers / 6

-- the refusal of the walk; then 4 with the items needed, then 8 with the bytes that the paths need
unfoldable pub fitted : ℕ → ℕ → Out → Answer
fitted room bytes o =
    pick (eqb o.verdict.number 0)
    (pick (leb (length o.items) room)
    (pick (leb (length (paths_of o.items)) bytes) (counted (length o.items)) (refused (verdict 8 (length (paths_of o.items)))))
    (refused (verdict 4 (length o.items))))
    (refused o.verdict)
