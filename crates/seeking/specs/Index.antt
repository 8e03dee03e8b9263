-- An index of a bundle's objects: twice the places of their ids, sorted by the ids. What it proposes is looked at. Assumes nothing.
use Rattle.std.specs.Prelude.{ℕ, zero, suc, ◌+◌, ◌-◌, ◌/◌, ◌<◌, false, ◌≡◌, List, ltb, length, get_or, take, drop, None, Option, Some}
use Rattle.ground.specs.Basics.{pick}
use Rattle.ground.specs.Scan.{same_bytes}
use Rattle.order.specs.Order.{name_order}
use Rattle.frame.specs.Frame.{head_of, frame_at, frames_by}
use Rattle.frame.specs.Place.{id_in, place_of}
use Rattle.frame.specs.declared.Header.{Header}
use Rattle.twice.specs.Ids.{ids_in, repeats}
use Rattle.indexing.specs.Indexing.{elements_in}
use Rattle.merge.specs.Merge.{by_order}
use mathlib.Core.List.{Memᴰ}
use Rattle.frame.specs.declared.Frame.{Frame}
use Rattle.std.specs.declared.cmp.Ordering.{Ordering}

-- the id at an element's place
abbrev pub id_at : ℕ → List ℕ → ℕ → List ℕ
id_at h s x = take h (drop (x / 2) s)

-- the middle of a range
abbrev pub middle : ℕ → ℕ → ℕ
middle low high = low + (high - low) / 2

-- a range is halved, at most so often, by what is said of its middle
unfoldable pub halve : (ℕ → Ordering) → ℕ → ℕ → ℕ → ℕ
halve f zero low high = low
halve f (suc k) low high =
    pick (ltb low high) (by_order (f (middle low high)) (halve f k (middle low high + 1) high) (middle low high) (halve f k low (middle low high))) low

-- where the halving ends: a range has no more halvings than numbers
unfoldable pub halved : (ℕ → Ordering) → ℕ → ℕ → ℕ
halved f low high = halve f (high - low) low high

-- how the id of an index's element stands to an id
abbrev pub order_in : ℕ → List ℕ → List ℕ → List ℕ → ℕ → Ordering
order_in h s index id i = name_order (id_at h s (get_or index i 0)) false id false

-- where in an index an id should stand
unfoldable pub place_in : ℕ → List ℕ → List ℕ → List ℕ → ℕ
place_in h s index id = halved (order_in h s index id) 0 (length index)

-- the object that was framed, if it has the id; else the first that a walk along the bundle meets
unfoldable pub looked : ℕ → List ℕ → List ℕ → Option Frame → Option Frame
looked h s id None = place_of s id
looked h s id (Some f) = pick (same_bytes (id_in h s f) id) (Some f) (place_of s id)

-- the object of an id, the index asked first
unfoldable pub seek_at : ℕ → List ℕ → List ℕ → List ℕ → ℕ → Option Frame
seek_at h s index id i = pick (ltb i (length index)) (looked h s id (frame_at h (get_or index i 0 / 2) (drop (get_or index i 0 / 2) s))) (place_of s id)

unfoldable pub seek_in : ℕ → List ℕ → List ℕ → List ℕ → Option Frame
seek_in h s index id = seek_at h s index id (place_in h s index id)

-- an index of a bundle without a repeated id: each element is twice the place of an object's id. Nothing is asked of its order
pub record IsIndex (s : List ℕ) (k : Header) (index : List ℕ) : Type 0 where
  pub head : head_of s ≡ Some k
  pub once : repeats (ids_in k.h s (frames_by s k)) ≡ false
  pub places : (i : ℕ) → i < length index → Memᴰ (get_or index i 0) (elements_in (frames_by s k))
