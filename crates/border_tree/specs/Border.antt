-- How a step's answer lies in the numbers that a caller lends. Assumes nothing.
use Rattle.std.specs.Prelude.{ℕ, List, ◌∷◌, ◌++◌}
use Rattle.entry.specs.Record.{flat}
use Rattle.entry.specs.declared.Step.{Step}
use Rattle.border.specs.Border.{yes, verdict_numbers}

-- the verdict, whether an entry was found, where the cursor goes on, and the entry's five numbers
abbrev pub step_numbers : Step → List ℕ
step_numbers s = verdict_numbers s.verdict ++ yes s.found ∷ s.next.at ∷ flat s.entry
