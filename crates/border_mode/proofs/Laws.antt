-- What the proofs of the calls on modes cite. Assumes nothing.
use Prim.Native.Nat.{ℕ}
use mathlib.Core.Path.{◌≡◌, ap, ◌∙◌}
use mathlib.Core.List.{List}
use Rattle.mode.specs.declared.ModeAnswer.{ModeAnswer}
use Rattle.border_mode.specs.Border.{mode_numbers}

-- what is handed over of an answer is handed over of its definition
pub mode-handed : {n : ℕ} {l : List ℕ} {a b : ModeAnswer} → (n ≡ a.verdict.number) × (l ≡ mode_numbers a) → a ≡ b
    → (n ≡ b.verdict.number) × (l ≡ mode_numbers b)
mode-handed p e = (p.0 ∙ ap (λ x. x.verdict.number) e, p.1 ∙ ap mode_numbers e)
