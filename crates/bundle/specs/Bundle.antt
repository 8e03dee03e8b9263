-- A bundle as a list of objects, and how one is opened: refusals 24 and 25 (docs/FORMAT.md, "Bundles"). Assumes nothing.
use Rattle.std.specs.Prelude.{ℕ, List, [], ◌∷◌, map, eqb, length, Err, None, Ok, Option, Result, Some, ⊤}
use Rattle.ground.specs.Basics.{pick, part}
use Rattle.ground.specs.Scan.{same_bytes}
use Rattle.ground.specs.Verdict.{verdict, fine, size_gate}
use Rattle.frame.specs.Frame.{head_of, frames_by, frames_in, whole}
use Rattle.frame.specs.Place.{id_in}
use Rattle.frame.specs.declared.Frame.{Frame}
use Rattle.twice.specs.Ids.{ids_in, repeats}
use Rattle.bundle.specs.declared.Checked.{Checked}
use Rattle.frame.specs.declared.Header.{Header}
use Rattle.ground.specs.declared.Verdict.{Verdict}

-- an object: its id, its kind (1 commit, 2 tree, 3 blob, 4 tag), its bytes
pub record Object : Type 0 where
  pub id : List ℕ
  pub kind : ℕ
  pub bytes : List ℕ

-- the object that a frame names in a bundle
unfoldable pub object_of : ℕ → List ℕ → Frame → Object
object_of h s f = record { id = id_in h s f; kind = f.kind; bytes = part f.start f.end s }

-- a bundle that is well framed has an id length and objects in turn
pub data Bundle : Type 0 where
  good : ℕ → List Object → Bundle
  bad : Bundle

-- the objects that a header speaks of, where nothing is wrong with them
unfoldable pub bundle_by : List ℕ → Option Header → Bundle
bundle_by s (Some k) = pick (whole (frames_by s k)) (good k.h (map (object_of k.h s) (frames_in (frames_by s k)))) bad
bundle_by s None = bad

-- what some bytes are as a bundle
abbrev pub bundle_of : List ℕ → Bundle
bundle_of s = bundle_by s (head_of s)

-- the ids of some objects
abbrev pub ids_of : List Object → List (List ℕ)
ids_of os = map (λ (o : Object). o.id) os

-- the first object of an id, if there is one
pub data Sought : Type 0 where
  present : Object → Sought
  absent : Sought

-- by a walk along them
unfoldable pub object_with : List ℕ → List Object → Sought
object_with id [] = absent
object_with id (o ∷ os) = pick (same_bytes o.id id) (present o) (object_with id os)

-- how a bundle is opened for root ids of n bytes: 24 where it is not well framed or has another H, then 25 where an id stands twice
unfoldable pub open_by : List ℕ → ℕ → Option Header → Result Header Verdict
open_by s n (Some k) =
    pick (eqb n k.h)
    (pick (whole (frames_by s k)) (pick (repeats (ids_in k.h s (frames_by s k))) (Err (verdict 25 0)) (Ok k)) (Err (verdict 24 0)))
    (Err (verdict 24 0))
open_by s n None = Err (verdict 24 0)

-- 2, then the rest
unfoldable pub open_from : List ℕ → ℕ → Result ⊤ Verdict → Result Header Verdict
open_from s n (Err v) = Err v
open_from s n (Ok tt) = open_by s n (head_of s)

abbrev pub open_of : List ℕ → ℕ → Result Header Verdict
open_of s n = open_from s n (size_gate (length s) 0)

-- ---- a bundle checked by itself

-- the id length that a header says
abbrev pub own_length : Option Header → ℕ
own_length (Some k) = k.h
own_length None = 0

-- what an opening says to a caller
unfoldable pub told : Result Header Verdict → Checked
told (Ok k) = record { verdict = fine; h = k.h; rules = k.rules; count = k.count }
told (Err v) = record { verdict = v; h = 0; rules = 0; count = 0 }

-- a bundle is checked as it is opened for ids of its own length
abbrev pub check_of : List ℕ → Checked
check_of s = told (open_of s (own_length (head_of s)))
