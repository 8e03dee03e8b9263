-- What a path leads to, by positions in the bundle (docs/FORMAT.md, "Paths"). Assumes nothing.
use Rattle.std.specs.Prelude.{ℕ, ◌+◌, ◌≤◌, List, [], ◌∷◌, take, drop, replicate, None, Option, Some}
use Rattle.std.proofs.lemmas.List.Edits.{sets}
use Rattle.ground.specs.Basics.{pick}
use Rattle.ground.specs.Verdict.{verdict, fine}
use Rattle.component.specs.Component.{is_path}
use Rattle.path_step.specs.Spot.{spot_in}
use Rattle.path_walk.specs.declared.Followed.{Followed}

-- where an entry was found its id is gone on with
unfoldable pub beyond : Option (ℕ × ℕ) → (ℕ → Option (ℕ × ℕ)) → Option (ℕ × ℕ)
beyond (Some (mode, at)) go = go at
beyond None go = None

-- one component at a time until none is left
unfoldable pub spot_along : ℕ → List ℕ → List ℕ → List (List ℕ) → Option (ℕ × ℕ)
spot_along h s id [] = None
spot_along h s id (c ∷ []) = spot_in h s id c
spot_along h s id (c ∷ d ∷ ds) = beyond (spot_in h s id c) (λ at. spot_along h s (take h (drop at s)) (d ∷ ds))

-- where there is a spot, the id of h bytes that stands there lies inside the bundle
abbrev pub SpotInside : ℕ → ℕ → Option (ℕ × ℕ) → Type 0
SpotInside h len (Some (mode, at)) = at + h ≤ len
SpotInside h len None = Unit {0}

-- a refusal: no mode, no id
abbrev pub missed : ℕ → Followed
missed n = record { verdict = verdict n 0; mode = 0; id = replicate 32 0; size = 0 }

-- what a spot says, the id of h bytes in thirty-two as far as there is room; 15 where there is none
unfoldable pub taken_from : ℕ → List ℕ → Option (ℕ × ℕ) → Followed
taken_from h s (Some (mode, at)) = record { verdict = fine; mode = mode; id = sets (replicate 32 0) 0 (take h (drop at s)); size = h }
taken_from h s None = missed 15

-- 26 where the components are not a path's, then the rest
unfoldable pub reached_by : ℕ → List ℕ → List ℕ → List (List ℕ) → Followed
reached_by h s id cs = pick (is_path cs) (taken_from h s (spot_along h s id cs)) (missed 26)
