-- The ids of a bundle's objects, and an id that stands twice (docs/FORMAT.md, "Bundles"). Assumes nothing.
use Rattle.std.specs.Prelude.{ℕ, Bool, false, ◌&&◌, ◌||◌, List, [], ◌∷◌, leb, length, None, Option, Some}
use Rattle.ground.specs.Scan.{same_bytes}
use Rattle.ground.specs.Verdict.{most_bytes}
use Rattle.frame.specs.Frame.{head_of, Frames, done, fault, frame, frames_by}
use Rattle.frame.specs.Place.{id_in}
use Rattle.frame.specs.declared.Header.{Header}

-- the ids in turn, up to the end or the fault
unfoldable pub ids_in : ℕ → List ℕ → Frames → List (List ℕ)
ids_in h s done = []
ids_in h s fault = []
ids_in h s (frame f l) = id_in h s f ∷ ids_in h s l

-- an id is one of some ids
unfoldable pub among : List ℕ → List (List ℕ) → Bool
among x [] = false
among x (y ∷ ys) = same_bytes y x || among x ys

-- an id stands twice
unfoldable pub repeats : List (List ℕ) → Bool
repeats [] = false
repeats (x ∷ xs) = among x xs || repeats xs

-- an id stands twice among the objects that a header speaks of, before any fault of the framing
unfoldable pub repeats_by : List ℕ → Option Header → Bool
repeats_by s (Some k) = repeats (ids_in k.h s (frames_by s k))
repeats_by s None = false

-- an id stands twice in a bundle within the bound
unfoldable pub id_twice : List ℕ → Bool
id_twice s = leb (length s) most_bytes && repeats_by s (head_of s)
