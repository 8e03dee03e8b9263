-- What the private functions promise. Assumes nothing.
use Rattle.std.specs.Prelude.{ℕ, ◌+◌, ◌≡◌, List, length, Err, Ok, Result}
use Rattle.std.proofs.lemmas.List.Edits.{sets}
use Rattle.ground.specs.Verdict.{fine}
use Rattle.ground.specs.declared.Verdict.{Verdict}

-- a text was stored at a place, as far as there was room, and the place past it was given
pub record Added (out : List ℕ) (at : ℕ) (piece after : List ℕ) (next : ℕ) : Type 0 where
  pub place : next ≡ at + length piece
  pub stores : after ≡ sets out at piece

-- the verdict on an object whose entries were counted
abbrev pub settled : Result ℕ Verdict → Verdict
settled (Ok n) = fine
settled (Err v) = v
