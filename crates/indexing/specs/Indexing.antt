-- The ids of a bundle as elements of the crate `sorting`, and the index of a bundle that a list of so many numbers can hold. Assumes nothing.
use Rattle.std.specs.Prelude.{ℕ, ◌*◌, List, [], ◌∷◌, leb, length}
use Rattle.ground.specs.Basics.{pick}
use Rattle.ground.specs.Verdict.{most_bytes}
use Rattle.frame.specs.Frame.{Frames, done, fault, frame, frames_by}
use Rattle.frame.specs.declared.Header.{Header}
use Rattle.keys.specs.Key.{key_at, below_by}
use Rattle.sorting.specs.Sort.{sort_by}

-- twice the place of each id
unfoldable pub elements_in : Frames → List ℕ
elements_in done = []
elements_in fault = []
elements_in (frame f l) = f.id * 2 ∷ elements_in l

-- twice the places of the ids, sorted by the ids; none for a bundle over its bound, or with more objects than there is room for
unfoldable pub index_of : List ℕ → Header → ℕ → List ℕ
index_of s k room =
    pick (leb (length s) most_bytes) (pick (leb k.count room) (sort_by (below_by (key_at s 0 k.h)) (elements_in (frames_by s k))) []) []
