-- A path followed through nested trees of a bundle (docs/FORMAT.md, "Paths"). Assumes nothing.
use Rattle.std.specs.Prelude.{ℕ, max, List, [], ◌∷◌, ◌++◌, length, drop, replicate, eqb, Err, Ok, Result, ⊤}
use Rattle.ground.specs.Basics.{pick}
use Rattle.ground.specs.Verdict.{verdict, fine, size_gate}
use Rattle.ground.specs.declared.Verdict.{Verdict}
use Rattle.twice.specs.Ids.{repeats}
use Rattle.bundle.specs.Bundle.{Object, Bundle, good, bad, bundle_of, ids_of, Sought, present, absent, object_with}
use Rattle.component.specs.Component.{components, is_path}
use Rattle.component.specs.Named.{Found, there, nowhere, entries_read, first_named}
use Rattle.path_walk.specs.declared.Followed.{Followed}

-- a name sought in an object: a missing object or one that is no tree has no entries
unfoldable pub in_object : ℕ → List ℕ → Sought → Found
in_object h name absent = nowhere
in_object h name (present o) = pick (eqb o.kind 2) (first_named name (entries_read h o.bytes)) nowhere

-- one component: the object of an id, and in it the first entry of the name
unfoldable pub step_to : ℕ → List Object → List ℕ → List ℕ → Found
step_to h os id name = in_object h name (object_with id os)

-- where an entry was found its id is gone on with
unfoldable pub onto : Found → (List ℕ → Found) → Found
onto nowhere go = nowhere
onto (there mode id) go = go id

-- one component at a time until none is left
unfoldable pub walk_along : ℕ → List Object → List ℕ → List (List ℕ) → Found
walk_along h os id [] = nowhere
walk_along h os id (c ∷ []) = step_to h os id c
walk_along h os id (c ∷ d ∷ ds) = onto (step_to h os id c) (λ next. walk_along h os next (d ∷ ds))

-- ---- the answer

-- an id in thirty-two bytes, the rest of them 0
unfoldable pub padded : List ℕ → List ℕ
padded id = id ++ drop (length id) (replicate 32 0)

-- a refusal: no mode, no id
abbrev pub refused_with : Verdict → Followed
refused_with v = record { verdict = v; mode = 0; id = replicate 32 0; size = 0 }

-- what was found, by value; 15 where nothing was
unfoldable pub answered : Found → Followed
answered (there m i) = record { verdict = fine; mode = m; id = padded i; size = length i }
answered nowhere = refused_with (verdict 15 0)

-- in a bundle that is opened: 26, then 15
unfoldable pub follow_along : ℕ → List Object → List ℕ → List (List ℕ) → Followed
follow_along h os root cs = pick (is_path cs) (answered (walk_along h os root cs)) (refused_with (verdict 26 0))

-- 24 where the bundle is not well framed or the root id is not of its H, then 25
unfoldable pub follow_in : Bundle → List ℕ → List (List ℕ) → Followed
follow_in bad root cs = refused_with (verdict 24 0)
follow_in (good h os) root cs =
    pick (eqb (length root) h) (pick (repeats (ids_of os)) (refused_with (verdict 25 0)) (follow_along h os root cs)) (refused_with (verdict 24 0))

-- 2, then the rest
unfoldable pub follow_from : List ℕ → List ℕ → List ℕ → Result ⊤ Verdict → Followed
follow_from s root path (Err v) = refused_with v
follow_from s root path (Ok tt) = follow_in (bundle_of s) root (components path)

-- the whole: 2 for the three lent buffers, 24, 25, 26, 15
abbrev pub follow : List ℕ → List ℕ → List ℕ → Followed
follow s root path = follow_from s root path (size_gate (max (max (length s) (length root)) (length path)) 0)
