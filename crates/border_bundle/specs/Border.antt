-- The object of an id as C asks for it, and how answers lie in the numbers that a caller lends. Assumes nothing.
use Rattle.std.specs.Prelude.{ℕ, max, List, [], ◌∷◌, ◌++◌, length, Err, None, Ok, Option, Result, Some, ⊤}
use Rattle.ground.specs.Verdict.{verdict, fine, size_gate}
use Rattle.ground.specs.declared.Verdict.{Verdict}
use Rattle.frame.specs.Place.{place_of}
use Rattle.bundle.specs.declared.Checked.{Checked}
use Rattle.border.specs.Border.{verdict_numbers}
use Rattle.border_bundle.specs.declared.Object.{Object}
use Rattle.frame.specs.declared.Frame.{Frame}

-- a refusal has no kind and no place
abbrev pub no_object : Verdict → Object
no_object v = record { verdict = v; kind = 0; start = 0; end = 0 }

-- where an object stands; 15 where there is none
unfoldable pub object_at : Option Frame → Object
object_at (Some f) = record { verdict = fine; kind = f.kind; start = f.start; end = f.end }
object_at None = no_object (verdict 15 0)

unfoldable pub object_from : List ℕ → List ℕ → Result ⊤ Verdict → Object
object_from s id (Err v) = no_object v
object_from s id (Ok tt) = object_at (place_of s id)

-- the object of an id: 2 for the two lent buffers, then 15
abbrev pub object_asked : List ℕ → List ℕ → Object
object_asked s id = object_from s id (size_gate (max (length s) (length id)) 0)

-- the verdict, H, rule set, number of objects
abbrev pub checked_numbers : Checked → List ℕ
checked_numbers c = verdict_numbers c.verdict ++ c.h ∷ c.rules ∷ c.count ∷ []

-- the verdict, kind, first byte, past the last byte
abbrev pub object_numbers : Object → List ℕ
object_numbers o = verdict_numbers o.verdict ++ o.kind ∷ o.start ∷ o.end ∷ []
