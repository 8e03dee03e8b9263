-- The held name after a name was placed. Assumes nothing.
use Rattle.std.specs.Prelude.{ℕ, List, Err, Ok, Result}
use Rattle.std.proofs.lemmas.List.Edits.{sets}
use Rattle.doubles.specs.declared.Misplaced.{Misplaced}
use Rattle.doubles.specs.declared.Misplaced.TheVariants.{Double, NotAfter}

-- the held name after a name was placed: that name, unless it stands below
abbrev pub held_after : Result ℕ Misplaced → List ℕ → List ℕ → List ℕ
held_after (Ok n) held name = sets held 0 name
held_after (Err NotAfter) held name = held
held_after (Err Double) held name = sets held 0 name
