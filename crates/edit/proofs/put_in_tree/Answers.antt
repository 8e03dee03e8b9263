-- `edit::put_in_tree` meets its contract. Assumes nothing.
use lib.ListN.{length}
use mathlib.Core.Path.{sym, ◌∙◌}
use Rattle.edit_walk.specs.Walk.{new_entry}
use Rattle.strict.proofs.Laws.{strict-refuses}
use Rattle.output.proofs.Laws.{refused-both}
use Rattle.edit.proofs.Answers as answers
use Rattle.edit.proofs.put_in_tree.Goals as goal

pub put_counted-requires : goal.put_counted-requires
put_counted-requires c =
    let args = c.args in
    let longer = c.longer in
    let longer2 = c.longer-2 in
    let longer3 = c.longer-most in
    let rule_bounds = c.rule_bounds in
    let enum_told = c.in-Ok in
    let strict-count = c.strict_count in
    let n = c.in-Ok-strict_count in
    let new = new_entry args.mode args.name.now args.id.now in
    let b = answers.put-bounds args.rules args.h args.bytes.now new _ _
    (answers.most-put (length args.bytes.now) (length args.name.now) (length args.id.now) (length args.out.now) longer3.ensures
    longer.ensures longer2.ensures)
    (sym rule_bounds.ensures ∙ enum_told.is) in
    record { bytes_value = answers.counted_is _ _ _ b.1 strict-count.ensures ∙ n.is; lt_h = b }

pub returns-in-Err : goal.returns-in-Err
returns-in-Err c =
    let r = (let args = c.args in
    let longer = c.longer in
    let longer2 = c.longer-2 in
    let longer3 = c.longer-most in
    let rule_bounds = c.rule_bounds in
    let v = c.in-Err in
    let new = new_entry args.mode args.name.now args.id.now in
    let shut = sym rule_bounds.ensures ∙ v.is in
    refused-both _ _ _ (answers.put-shut args.rules args.h args.bytes.now new _ _
    (answers.most-put (length args.bytes.now) (length args.name.now) (length args.id.now) (length args.out.now) longer3.ensures
    longer.ensures longer2.ensures) _ shut)
    (strict-refuses _ _ _ _ _ shut)) in
    record { answer = r.0; out = r.1 }

pub returns-in-Err-strict_count : goal.returns-in-Err-strict_count
returns-in-Err-strict_count c =
    let r = (let args = c.args in
    let longer = c.longer in
    let longer2 = c.longer-2 in
    let longer3 = c.longer-most in
    let rule_bounds = c.rule_bounds in
    let enum_told = c.in-Ok in
    let strict-count = c.strict_count in
    let w = c.in-Err-strict_count in
    let new = new_entry args.mode args.name.now args.id.now in
    let m = answers.most-put (length args.bytes.now) (length args.name.now) (length args.id.now) (length args.out.now) longer3.ensures
    longer.ensures longer2.ensures in
    let begun = sym rule_bounds.ensures ∙ enum_told.is in
    let b = answers.put-bounds args.rules args.h args.bytes.now new _ _ m begun in
    let t = answers.counted_is _ _ _ b.1 strict-count.ensures ∙ w.is in
    refused-both _ _ _ (answers.put_stopped args.rules args.h args.bytes.now new _ _ m begun _ t) (answers.stopped_refuses _ _ _ _ t)) in
    record { answer = r.0; out = r.1 }

pub returns-in-Ok-strict_count : goal.returns-in-Ok-strict_count
returns-in-Ok-strict_count c =
    let r = (let args = c.args in
    let longer = c.longer in
    let longer2 = c.longer-2 in
    let longer3 = c.longer-most in
    let rule_bounds = c.rule_bounds in
    let enum_told = c.in-Ok in
    let strict-count = c.strict_count in
    let n = c.in-Ok-strict_count in
    let put-counted = c.put_counted in
    let new = new_entry args.mode args.name.now args.id.now in
    let m = answers.most-put (length args.bytes.now) (length args.name.now) (length args.id.now) (length args.out.now) longer3.ensures
    longer.ensures longer2.ensures in
    let begun = sym rule_bounds.ensures ∙ enum_told.is in
    let b = answers.put-bounds args.rules args.h args.bytes.now new _ _ m begun in
    let t = answers.counted_is _ _ _ b.1 strict-count.ensures ∙ n.is in
    answers.finish _ _ args.out.now _ (answers.put_total args.rules args.h args.bytes.now new _ _ m begun _ t) put-counted.ensures.answer
    put-counted.ensures.out) in
    record { answer = r.0; out = r.1 }
