-- `piece_ends::start` meets its contract. Assumes nothing.
use mathlib.Core.Path.{sym, ◌∙◌}
use Rattle.arriving.proofs.Laws.{start_open, start-shut}
use Rattle.piece_ends.proofs.start.Goals as goal

pub returns-in-Ok : goal.returns-in-Ok
returns-in-Ok c =
    let args = c.args in
    let rule_bounds = c.rule_bounds in
    let enum_told = c.in-Ok in
    let fresh = c.fresh in
    start_open args.h args.rules _ (sym rule_bounds.ensures ∙ enum_told.is) fresh.ensures

pub returns-in-Err : goal.returns-in-Err
returns-in-Err c =
    let args = c.args in
    let rule_bounds = c.rule_bounds in
    let v = c.in-Err in
    let fresh2 = c.fresh-in-Err in
    start-shut args.h args.rules _ _ (sym rule_bounds.ensures ∙ v.is) fresh2.ensures
