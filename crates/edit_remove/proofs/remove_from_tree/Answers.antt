-- `edit_remove::remove_from_tree` meets its contract. Assumes nothing.
use lib.ListN.{length}
use mathlib.Core.Path.{sym, ◌∙◌}
use Rattle.strict.proofs.Laws.{strict-refuses}
use Rattle.output.proofs.Laws.{refused-both}
use Rattle.edit.proofs.Answers as answers
use Rattle.edit_remove.proofs.remove_from_tree.Goals as goal

pub remove_counted-requires : goal.remove_counted-requires
remove_counted-requires c =
    let args = c.args in
    let longer = c.longer in
    let longer2 = c.longer-most in
    let rule_bounds = c.rule_bounds in
    let enum_told = c.in-Ok in
    let strict-count = c.strict_count in
    let n = c.in-Ok-strict_count in
    let b = answers.remove-bounds args.rules args.h args.bytes.now args.name.now _ _
    (answers.most-remove (length args.bytes.now) (length args.name.now) (length args.out.now) longer2.ensures longer.ensures)
    (sym rule_bounds.ensures ∙ enum_told.is) in
    record { bytes_value = answers.counted_is _ _ _ b.1 strict-count.ensures ∙ n.is; lt_h = b }

pub returns-in-Err : goal.returns-in-Err
returns-in-Err c =
    let r = (let args = c.args in
    let longer = c.longer in
    let longer2 = c.longer-most in
    let rule_bounds = c.rule_bounds in
    let v = c.in-Err in
    let shut = sym rule_bounds.ensures ∙ v.is in
    refused-both _ _ _ (answers.remove-shut args.rules args.h args.bytes.now args.name.now _ _
    (answers.most-remove (length args.bytes.now) (length args.name.now) (length args.out.now) longer2.ensures longer.ensures) _ shut)
    (strict-refuses _ _ _ _ _ shut)) in
    record { answer = r.0; out = r.1 }

pub returns-in-Err-strict_count : goal.returns-in-Err-strict_count
returns-in-Err-strict_count c =
    let r = (let args = c.args in
    let longer2 = c.longer-most in
    let longer = c.longer in
    let rule_bounds = c.rule_bounds in
    let enum_told = c.in-Ok in
    let strict-count = c.strict_count in
    let m = answers.most-remove (length args.bytes.now) (length args.name.now) (length args.out.now) longer2.ensures longer.ensures in
    let begun = sym rule_bounds.ensures ∙ enum_told.is in
    let b = answers.remove-bounds args.rules args.h args.bytes.now args.name.now _ _ m begun in
    let t = answers.counted_is _ _ _ b.1 strict-count.ensures ∙ c.in-Err-strict_count.is in
    refused-both _ _ _ (answers.remove_stopped args.rules args.h args.bytes.now args.name.now _ _ m begun _ t) (answers.stopped_refuses _ _ _ _ t)) in
    record { answer = r.0; out = r.1 }

pub returns-in-Ok-strict_count : goal.returns-in-Ok-strict_count
returns-in-Ok-strict_count c =
    let r = (let args = c.args in
    let longer = c.longer in
    let longer2 = c.longer-most in
    let rule_bounds = c.rule_bounds in
    let enum_told = c.in-Ok in
    let strict-count = c.strict_count in
    let n = c.in-Ok-strict_count in
    let remove-counted = c.remove_counted in
    let m = answers.most-remove (length args.bytes.now) (length args.name.now) (length args.out.now) longer2.ensures longer.ensures in
    let begun = sym rule_bounds.ensures ∙ enum_told.is in
    let b = answers.remove-bounds args.rules args.h args.bytes.now args.name.now _ _ m begun in
    let t = answers.counted_is _ _ _ b.1 strict-count.ensures ∙ n.is in
    answers.finish _ _ args.out.now _ (answers.remove_total args.rules args.h args.bytes.now args.name.now _ _ m begun _ t)
    remove-counted.ensures.answer
    remove-counted.ensures.out) in
    record { answer = r.0; out = r.1 }
