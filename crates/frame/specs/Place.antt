-- Where the object of an id stands in a bundle (docs/FORMAT.md, "Bundles"). Assumes nothing.
use Rattle.std.specs.Prelude.{ℕ, List, take, drop, None, Option, Some}
use Rattle.ground.specs.Basics.{pick}
use Rattle.ground.specs.Scan.{same_bytes}
use Rattle.frame.specs.Frame.{head_of, Frames, done, fault, frame, frames_by}
use Rattle.frame.specs.declared.Frame.{Frame}
use Rattle.frame.specs.declared.Header.{Header}

-- the id of an object that stands in a bundle
unfoldable pub id_in : ℕ → List ℕ → Frame → List ℕ
id_in h s f = take h (drop f.id s)

-- the first object of an id, before the end or the fault
unfoldable pub first_of : ℕ → List ℕ → List ℕ → Frames → Option Frame
first_of h s id done = None
first_of h s id fault = None
first_of h s id (frame f l) = pick (same_bytes (id_in h s f) id) (Some f) (first_of h s id l)

-- the same among the objects that a header speaks of; none where there is no header
unfoldable pub place_by : List ℕ → List ℕ → Option Header → Option Frame
place_by s id (Some k) = first_of k.h s id (frames_by s k)
place_by s id None = None

-- where the object of an id stands in any bytes: the first, before any fault of the framing
abbrev pub place_of : List ℕ → List ℕ → Option Frame
place_of s id = place_by s id (head_of s)
