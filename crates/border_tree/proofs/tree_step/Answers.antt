-- `border_tree::tree_step` meets its contract. Assumes nothing.
use mathlib.Core.Path.{ap, ◌∙◌}
use Rattle.border_tree.specs.Border.{step_numbers}
use Rattle.border_tree.proofs.Laws.{step-numbers}
use Rattle.border_tree.proofs.tree_step.Goals as goal

pub returns : goal.returns
returns c =
    let k = c.step-s in
    record { value = ap (λ s. s.verdict.number) k.ensures; answer_after = step-numbers k.result ∙ ap step_numbers k.ensures }
