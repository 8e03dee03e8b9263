-- `tree_import::import_tree` meets its contract. Assumes nothing.
use mathlib.Core.Path.{sym, ◌∙◌}
use lib.ListN.{length}
use Rattle.output.proofs.Laws.{refused-both}
use Rattle.strict.proofs.Laws.{strict-refuses}
use Rattle.text_import.proofs.Whole.{import_shut, import-open, import_began, both-whole}
use Rattle.tree_import.proofs.import_tree.Goals as goal

pub import_open-requires : goal.import_open-requires
import_open-requires c =
    let args = c.args in
    let longer = c.longer in
    let rule_bounds = c.rule_bounds in
    let enum_told = c.in-Ok in
    import_began args.rules args.h args.text.now (length args.out.now) _ longer.ensures (sym rule_bounds.ensures ∙ enum_told.is)

pub returns-in-Err : goal.returns-in-Err
returns-in-Err c =
    let r = (let args = c.args in
    let longer = c.longer in
    let rule_bounds = c.rule_bounds in
    let v = c.in-Err in
    refused-both _ _ _ (import_shut args.rules args.h args.text.now (length args.out.now) _ longer.ensures _
    (sym rule_bounds.ensures ∙ v.is)) (strict-refuses _ _ _ _ _ (sym rule_bounds.ensures ∙ v.is))) in
    record { answer = r.0; out = r.1 }

pub returns-in-Ok : goal.returns-in-Ok
returns-in-Ok c =
    let r = (let args = c.args in
    let longer = c.longer in
    let rule_bounds = c.rule_bounds in
    let enum_told = c.in-Ok in
    both-whole args.rules args.h args.text.now args.out.now _ _
    (import-open args.rules args.h args.text.now (length args.out.now) _ longer.ensures (sym rule_bounds.ensures ∙ enum_told.is))
    (c.import_open.ensures.answer, c.import_open.ensures.out)) in
    record { answer = r.0; out = r.1 }
