-- `path::follow_path` meets its contract. Assumes nothing.
use mathlib.Core.Path.{sym, ◌∙◌}
use Rattle.path.proofs.Laws.{gate_shut, gate_on}
use Rattle.path.proofs.follow_path.Goals as goal

pub returns-in-Err : goal.returns-in-Err
returns-in-Err c =
    let args = c.args in
    let longer = c.longer in
    let sizes = c.sizes in
    let v = c.in-Err in
    let refused = c.refused in
    refused.ensures ∙ sym (gate_shut args.s.now args.root.now args.path.now _ _ longer.ensures sizes.ensures _ v.is)

pub returns-in-Ok : goal.returns-in-Ok
returns-in-Ok c =
    let args = c.args in
    let longer = c.longer in
    let sizes = c.sizes in
    let enum_told = c.in-Ok in
    let follow-within = c.follow_within in
    follow-within.ensures ∙ sym (gate_on args.s.now args.root.now args.path.now _ _ longer.ensures sizes.ensures enum_told.is)
