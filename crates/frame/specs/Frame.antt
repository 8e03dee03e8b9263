-- The framing of a bundle: what it begins with, one object in it, all of them in turn (docs/FORMAT.md, "Bundles"). Assumes nothing.
use Rattle.std.specs.Prelude.{ℕ, zero, suc, ◌+◌, ◌*◌, Bool, true, false, ◌&&◌, List, [], ◌∷◌, length, get_or, take, drop, eqb, leb, None, Option, Some}
use Rattle.ground.specs.Basics.{pick, ascii}
use Rattle.ground.specs.Scan.{same_bytes}
use Rattle.ground.specs.Verdict.{id_length, most_records, is_set}
use Rattle.frame.specs.declared.Header.{Header}
use Rattle.frame.specs.declared.Frame.{Frame}

-- the number that some bytes say, the lowest first
abbrev pub little : List ℕ → ℕ
little [] = 0
little (b ∷ bs) = b + 256 * little bs

-- from a place on: one byte H, and four that say how many objects follow
unfoldable pub fields_at : ℕ → ℕ → List ℕ → Option Header
fields_at rules at s =
    pick (leb (at + 5) (length s) && (id_length (get_or s at 0) && leb (little (take 4 (drop (at + 1) s))) most_records))
    (Some (record { h = get_or s at 0; rules = rules; count = little (take 4 (drop (at + 1) s)); from = at + 5 })) None

-- version 2 carries one of the two rule sets in two bytes
unfoldable pub by_rules : ℕ → List ℕ → Option Header
by_rules rules s = pick (is_set rules) (fields_at rules 7 s) None

-- version 1 means rule set 2
unfoldable pub by_version : ℕ → List ℕ → Option Header
by_version version s = pick (eqb version 1) (fields_at 2 5 s) (pick (eqb version 2) (by_rules (little (take 2 (drop 5 s))) s) None)

-- a bundle begins with `GOB` and a version of two bytes
unfoldable pub head_of : List ℕ → Option Header
head_of s = pick (same_bytes (take 3 s) (ascii "GOB")) (by_version (little (take 2 (drop 3 s))) s) None

-- the length of the object at the front of some bytes: four bytes past its id and its kind
abbrev pub size_of : ℕ → List ℕ → ℕ
size_of h b = little (take 4 (drop (h + 1) b))

-- an object stands at the front of some bytes: an id of h bytes, a kind from 1 to 4, a length, and so many bytes
unfoldable pub is_frame : ℕ → List ℕ → Bool
is_frame h b = leb (h + 5) (length b) && (leb 1 (get_or b h 0) && (leb (get_or b h 0) 4 && leb (h + 5 + size_of h b) (length b)))

-- its kind, and where its id and its bytes lie, if the bytes b stand at a place of the bundle
abbrev pub frame_of : ℕ → ℕ → List ℕ → Frame
frame_of h at b = record { kind = get_or b h 0; id = at; start = at + (h + 5); end = at + (h + 5 + size_of h b) }

-- the object at the front of the bytes b, which stand at a place of the bundle
unfoldable pub frame_at : ℕ → ℕ → List ℕ → Option Frame
frame_at h at b = pick (is_frame h b) (Some (frame_of h at b)) None

-- objects in turn, and then the end of the bundle; or a fault of the framing
pub data Frames : Type 0 where
  done : Frames
  fault : Frames
  frame : Frame → Frames → Frames

-- an object, and what follows it
unfoldable pub onward : (ℕ → Frames) → Option Frame → Frames
onward go (Some f) = frame f (go f.end)
onward go None = fault

-- so many objects from a place on, and nothing left over
unfoldable pub frames : ℕ → List ℕ → ℕ → ℕ → Frames
frames h s zero at = pick (eqb at (length s)) done fault
frames h s (suc n) at = onward (frames h s n) (frame_at h at (drop at s))

-- all the objects that a header speaks of
abbrev pub frames_by : List ℕ → Header → Frames
frames_by s k = frames k.h s k.count k.from

-- no fault was met
unfoldable pub whole : Frames → Bool
whole done = true
whole fault = false
whole (frame f l) = whole l

-- the objects before the end or the fault
unfoldable pub frames_in : Frames → List Frame
frames_in done = []
frames_in fault = []
frames_in (frame f l) = f ∷ frames_in l
