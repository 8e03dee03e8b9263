-- A tree of a bundle that is opened by its id: 28, then what strict reading of it gives (docs/FORMAT.md, "Differences"). Assumes nothing.
use Rattle.std.specs.Prelude.{ℕ, ◌≤◌, List, eqb, length, Err, None, Ok, Option, Result, Some}
use Rattle.ground.specs.Basics.{pick, part}
use Rattle.ground.specs.Verdict.{verdict}
use Rattle.frame.specs.Place.{place_of}
use Rattle.frame.specs.declared.Header.{Header}
use Rattle.strict.specs.Strict.{strict_count}
use Rattle.merge.specs.Merge.{Within}
use Rattle.merge.specs.declared.Rest.{Rest}
use Rattle.seeking.specs.Index.{seek_in}
use Rattle.frame.specs.declared.Frame.{Frame}
use Rattle.ground.specs.declared.Verdict.{Verdict}

-- nothing to read
abbrev pub no_rest : Rest
no_rest = record { start = 0; end = 0; at = 0; left = 0 }

-- an object whose entries were counted
unfoldable pub open_counted : ℕ → ℕ → Result ℕ Verdict → Result Rest Verdict
open_counted start end (Err v) = Err v
open_counted start end (Ok n) = Ok (record { start = start; end = end; at = 0; left = n })

-- 28 where an object is missing or no tree, then what strict reading by the bundle's rule set gives
unfoldable pub open_placed : Header → List ℕ → Option Frame → Result Rest Verdict
open_placed k s None = Err (verdict 28 0)
open_placed k s (Some f) =
    pick (eqb f.kind 2) (open_counted f.start f.end (strict_count k.rules k.h (part f.start f.end s))) (Err (verdict 28 0))

-- an empty id stands for the side where nothing is
unfoldable pub open_by : Header → List ℕ → List ℕ → Option Frame → Result Rest Verdict
open_by k s id p = pick (eqb (length id) 0) (Ok no_rest) (open_placed k s p)

-- the tree of an id; and the same with an index
abbrev pub open_at : Header → List ℕ → List ℕ → Result Rest Verdict
open_at k s id = open_by k s id (place_of s id)

abbrev pub open_in : Header → List ℕ → List ℕ → List ℕ → Result Rest Verdict
open_in k s id index = open_by k s id (seek_in k.h s index id)

-- with so many levels to go: 27 with none, whatever the id is
abbrev pub open_level : Header → List ℕ → List ℕ → ℕ → List ℕ → Result Rest Verdict
open_level k s id depth index = pick (eqb depth 0) (Err (verdict 27 0)) (open_in k s id index)

-- two trees, the refusal of the left one first
unfoldable pub pair_of : Result Rest Verdict → Result Rest Verdict → Result (Rest × Rest) Verdict
pair_of (Err v) r = Err v
pair_of (Ok l) (Err w) = Err w
pair_of (Ok l) (Ok r) = Ok (l, r)

-- two trees with so many levels to go: 27 with none, whatever the ids are
unfoldable pub open_both : Header → List ℕ → List ℕ → List ℕ → ℕ → List ℕ → Result (Rest × Rest) Verdict
open_both k s left right depth index = pick (eqb depth 0) (Err (verdict 27 0)) (pair_of (open_in k s left index) (open_in k s right index))

-- an opened tree lies inside the bundle, and has as many entries as may be at most
abbrev pub OpenWithin : List ℕ → Result Rest Verdict → Type 0
OpenWithin s (Err v) = Unit {0}
OpenWithin s (Ok c) = Within s c × (c.left ≤ 1048576)
