-- `border_path::follow_path` meets its contract. Assumes nothing.
use mathlib.Core.Path.{ap}
use Rattle.path_walk.specs.declared.Followed.{Followed}
use Rattle.border_path.specs.Border.{followed_numbers}
use Rattle.border_path.proofs.follow_path.Goals as goal

pub returns : goal.returns
returns c =
    let follow_path = c.follow_path-r in
    let e = follow_path.ensures in
    record { value = ap (λ (x : Followed). x.verdict.number) e; answer_after = ap followed_numbers e; id_after = ap (λ (x : Followed). x.id) e }
