-- `border_bundle::check_bundle` meets its contract. Assumes nothing.
use mathlib.Core.Path.{ap}
use Rattle.bundle.specs.declared.Checked.{Checked}
use Rattle.border_bundle.specs.Border.{checked_numbers}
use Rattle.border_bundle.proofs.check_bundle.Goals as goal

pub returns : goal.returns
returns c = let e = c.check_bundle-c.ensures in record { value = ap (λ (x : Checked). x.verdict.number) e; answer_after = ap checked_numbers e }
