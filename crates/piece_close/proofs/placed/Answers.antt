-- `piece_close::placed` meets its contract. Assumes nothing.
use mathlib.Core.Path.{ap, ◌∙◌}
use Rattle.std.specs.Prelude.{Err}
use Rattle.doubles.specs.declared.Misplaced.{Misplaced}
use Rattle.piece_close.proofs.Laws.{placed-fine, placed_double, placed-not}
use Rattle.piece_close.proofs.placed.Goals as goal

pub returns-in-Ok : goal.returns-in-Ok
returns-in-Ok c =
    let args = c.args in
    let p = c.in-Ok in
    placed-fine args.m args.at args.l args.p _ p.is c.next_entry.ensures

pub returns-in-Double : goal.returns-in-Double
returns-in-Double c =
    let args = c.args in
    let is = c.in-Err.is ∙ ap (λ (x : Misplaced). Err x) c.in-Double.is in
    placed_double args.m args.at args.l args.p is c.refused.ensures

pub returns-in-NotAfter : goal.returns-in-NotAfter
returns-in-NotAfter c =
    let args = c.args in
    let is = c.in-Err.is ∙ ap (λ (x : Misplaced). Err x) c.in-NotAfter.is in
    placed-not args.m args.at args.l args.p is c.refused-in-NotAfter.ensures
