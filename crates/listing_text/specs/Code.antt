-- What the private functions promise. Assumes nothing.
use Rattle.std.specs.Prelude.{ℕ, ◌+◌, ◌≡◌, List, length}
use Rattle.std.proofs.lemmas.List.Edits.{sets}

-- a text was stored at a place, as far as there was room, and the place past it was given
pub record Added (out : List ℕ) (at : ℕ) (piece after : List ℕ) (next : ℕ) : Type 0 where
  pub place : next ≡ at + length piece
  pub stores : after ≡ sets out at piece

-- the records that are lent: an entry has at least 22 bytes, so an object of 65,536 has at most so many
abbrev pub room : ℕ
room = 2978
