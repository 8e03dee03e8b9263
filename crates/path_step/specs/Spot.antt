-- One component of a path, by positions in the bundle (docs/FORMAT.md, "Paths"). Assumes nothing.
use Rattle.std.specs.Prelude.{ℕ, ◌+◌, List, eqb, length, None, Option, Some}
use Rattle.ground.specs.Basics.{pick, part}
use Rattle.reading.specs.Listing.{plain}
use Rattle.frame.specs.Place.{place_of}
use Rattle.component.specs.Named.{first_in}
use Rattle.entry.specs.declared.EntryRecord.{EntryRecord}
use Rattle.frame.specs.declared.Frame.{Frame}

-- an entry of a tree that begins at a place of the bundle
unfoldable pub entry_at : ℕ → Option EntryRecord → Option (ℕ × ℕ)
entry_at start (Some e) = Some (e.mode, start + e.id_start)
entry_at start None = None

-- the first entry of a name in a tree's bytes
abbrev pub entry_in : ℕ → List ℕ → List ℕ → Option EntryRecord
entry_in h name b = first_in b name (plain h (length b) 0 b)

-- the same in an object that was found: a missing object or one that is no tree has no entries
unfoldable pub spot_of : ℕ → List ℕ → List ℕ → Option Frame → Option (ℕ × ℕ)
spot_of h s name None = None
spot_of h s name (Some f) = pick (eqb f.kind 2) (entry_at f.start (entry_in h name (part f.start f.end s))) None

-- and in the object of an id
abbrev pub spot_in : ℕ → List ℕ → List ℕ → List ℕ → Option (ℕ × ℕ)
spot_in h s id name = spot_of h s name (place_of s id)
