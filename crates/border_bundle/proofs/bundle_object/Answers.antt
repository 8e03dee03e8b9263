-- `border_bundle::bundle_object` meets its contract. Assumes nothing.
use mathlib.Core.Path.{ap}
use Rattle.border_bundle.specs.declared.Object.{Object}
use Rattle.border_bundle.specs.Border.{object_numbers}
use Rattle.border_bundle.proofs.bundle_object.Goals as goal

pub returns : goal.returns
returns c = let e = c.object_of-o.ensures in record { value = ap (λ (x : Object). x.verdict.number) e; answer_after = ap object_numbers e }
