-- What is said of the part of an entry that cannot be read; nothing where there is none. Assumes nothing.
use Rattle.std.specs.Prelude.{ℕ, ◌≡◌, refl, List, [], ◌∷◌, length, get_or}
use Rattle.std.proofs.lemmas.List.Edits.{sets}
use Rattle.ground.specs.Basics.{ascii}

unfoldable pub part_words : ℕ → List ℕ
part_words part =
    get_or ([] ∷ ascii "the entry's mode cannot be read" ∷ ascii "the entry's name has no end" ∷ ascii "the entry's id is cut" ∷ []) part []

pub parts : (part_words 0 ≡ []) × (part_words 1 ≡ ascii "the entry's mode cannot be read") × (part_words 3 ≡ ascii "the entry's id is cut")
unfolding part_words
parts = (refl, refl, refl)

-- words were stored at the front, as far as there was room, and their length was given
pub record Stored (out words after : List ℕ) (count : ℕ) : Type 0 where
  pub many : count ≡ length words
  pub stores : after ≡ sets out 0 words
