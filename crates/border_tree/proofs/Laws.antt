-- What the proof of a step cites. Assumes nothing.
use mathlib.Core.Path.{◌≡◌, ap}
use mathlib.Core.List.{◌∷◌}
use mir.Val.{bool_byte}
use Rattle.entry.specs.Record.{flat}
use Rattle.entry.specs.declared.Step.{Step}
use Rattle.border.proofs.Laws.{as_number}
use Rattle.border_tree.specs.Border.{step_numbers}

-- a step's numbers as they are laid, the flag by its cast
pub step-numbers : (s : Step)
    → s.verdict.number ∷ s.verdict.place ∷ s.verdict.part ∷ bool_byte s.found ∷ s.next.at ∷ flat s.entry ≡ step_numbers s
step-numbers s = ap (λ x. s.verdict.number ∷ s.verdict.place ∷ s.verdict.part ∷ x ∷ s.next.at ∷ flat s.entry) (as_number s.found)
