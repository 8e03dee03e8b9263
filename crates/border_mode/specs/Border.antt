-- How the answers about modes lie in the numbers that a caller lends. Assumes nothing.
use Rattle.std.specs.Prelude.{ℕ, List, [], ◌∷◌, ◌++◌}
use Rattle.mode.specs.declared.ModeAnswer.{ModeAnswer}
use Rattle.border.specs.Border.{verdict_numbers}
pub use Rattle.border_kind.specs.Border.{mode_asked}

-- the verdict, mode
abbrev pub mode_numbers : ModeAnswer → List ℕ
mode_numbers a = verdict_numbers a.verdict ++ a.mode.internal ∷ []
