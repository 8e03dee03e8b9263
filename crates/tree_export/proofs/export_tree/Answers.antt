-- `tree_export::export_tree` meets its contract. Assumes nothing.
use mathlib.Core.Path.{sym, ◌∙◌}
use Rattle.output.proofs.Laws.{refused-both, fitted-both}
use Rattle.strict.proofs.Laws.{strict-refuses}
use Rattle.tree_export.proofs.Laws.{export_shut, export_open, began, counted-length}
use lib.ListN.{length}
use Rattle.tree_export.proofs.export_tree.Goals as goal

pub returns-in-Err : goal.returns-in-Err
returns-in-Err c =
    let r = (let rule_bounds = c.rule_bounds in
    let v = c.in-Err in
    let args = c.args in
    let longer = c.longer in
    let g = sym rule_bounds.ensures ∙ v.is in
    refused-both _ _ _ (export_shut args.rules args.h args.bytes.now (length args.out.now) _ longer.ensures _ g) (strict-refuses _ _ _ _ _ g)) in
    record { answer = r.0; out = r.1 }

pub measure-requires : goal.measure-requires
measure-requires c =
    let args = c.args in
    let longer = c.longer in
    let rule_bounds = c.rule_bounds in
    let enum_told = c.in-Ok in
    (began args.rules args.h args.bytes.now (length args.out.now) _ longer.ensures (sym rule_bounds.ensures ∙ enum_told.is)).0

pub returns-then-number-ne-DONE : goal.returns-then-number-ne-DONE
returns-then-number-ne-DONE c =
    let r = (let args = c.args in
    let longer = c.longer in
    let rule_bounds = c.rule_bounds in
    let enum_told = c.in-Ok in
    let measure = c.measure in
    let fit = c.fit-a in
    let if1 = c.if-number-ne-DONE in
    let f = rw measure.ensures at fit.ensures in
    refused-both _ _ _ (export_open args.rules args.h args.bytes.now (length args.out.now) _ longer.ensures
    (sym rule_bounds.ensures ∙ enum_told.is) ∙ sym f) if1.true) in
    record { answer = r.0; out = r.1 }

pub walk-requires : goal.walk-requires
walk-requires c =
    let args = c.args in
    let longer = c.longer in
    let rule_bounds = c.rule_bounds in
    let enum_told = c.in-Ok in
    let b = began args.rules args.h args.bytes.now (length args.out.now) _ longer.ensures (sym rule_bounds.ensures ∙ enum_told.is) in
    (b.1, b.2)

pub returns : goal.returns
returns c =
    let r = (let args = c.args in
    let longer = c.longer in
    let rule_bounds = c.rule_bounds in
    let enum_told = c.in-Ok in
    let measure = c.measure in
    let fit = c.fit-a in
    let if1 = c.if-number-ne-DONE in
    let walk = c.walk in
    let f = rw measure.ensures at fit.ensures in
    fitted-both _ _ _ args.out.now _ (export_open args.rules args.h args.bytes.now (length args.out.now) _ longer.ensures
    (sym rule_bounds.ensures ∙ enum_told.is) ∙ sym f) f if1.false (λ z. counted-length args.h args.bytes.now args.rules z)
    walk.ensures.stores) in
    record { answer = r.0; out = r.1 }
