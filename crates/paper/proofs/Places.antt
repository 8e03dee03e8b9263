-- The places are where they are said to be: by every way through the definitions. Assumes nothing.
use Prim.Native.Nat.{ℕ}
use mathlib.Core.Path.{◌≡◌, refl}
use mathlib.Core.List.{List}
use Rattle.mode.specs.Read.{mode_alone}
use Rattle.mode.specs.declared.ModeAnswer.{ModeAnswer}
use Rattle.paper.proofs.Modes.{each-alone}
use Rattle.paper.specs.Places.{Places}
use Rattle.tree_calls.proofs.Places.{tree_places}
use Rattle.commit_calls.proofs.Places.{commit-places}

alone-place : (i : List ℕ) (x : ModeAnswer) → x ≡ mode_alone i → x.verdict.place ≡ 0
alone-place i x q = rw q (each-alone (λ y. y.verdict.place ≡ 0) (λ m. refl) refl refl i)

pub places : Places
places = record {
  from_bytes = λ c. alone-place _ _ c.meets;
  of_trees = tree_places;
  of_commits = commit-places;
}
