-- `tree_write::write_tree` meets its contract. Assumes nothing.
use Rattle.output.proofs.Laws.{refused-both, fitted-both, shut-refuses}
use Rattle.tree_write.proofs.Laws.{answer-shut, answer-fits, fills, count-is, within}
use native.Mathlib.Omega.{arith}
use mathlib.Core.Path.{sym, ◌∙◌}
use lib.ListN.{length}
use Rattle.tree_write.proofs.write_tree.Goals as goal

pub returns-in-Err : goal.returns-in-Err
returns-in-Err c =
    let r = (let g = sym c.bounds.ensures ∙ c.in-Err.is in
    refused-both _ _ _ (answer-shut _ _ _ _ _ c.longer.ensures _ g) (shut-refuses _ _ _ _ g)) in
    record { value = r.0; out_after = r.1 }

pub measure-requires : goal.measure-requires
measure-requires c =
    let bounds = c.bounds in
    let enum_told = c.in-Ok in
    let a = c.args in
    within a.h a.bytes.now a.records.now _ (omega (arith, c.longer.ensures)) (sym bounds.ensures ∙ enum_told.is)

pub returns-then-number-ne-DONE : goal.returns-then-number-ne-DONE
returns-then-number-ne-DONE c =
    let r = (let measure = c.measure in
    let fit = c.fit-a in
    let a = c.args in
    refused-both _ _ _ (answer-fits a.h a.bytes.now a.records.now (length a.out.now) _ c.longer.ensures measure.result
    fit.result measure.ensures fit.ensures (sym c.bounds.ensures ∙ c.in-Ok.is)) c.if-number-ne-DONE.true) in
    record { value = r.0; out_after = r.1 }

pub fill-requires : goal.fill-requires
fill-requires c =
    let r = (let measure = c.measure in
    let fit = c.fit-a in
    let a = c.args in
    fills a.h a.bytes.now a.records.now measure.result measure.ensures (length a.out.now) fit.result fit.ensures
    c.if-number-ne-DONE.false) in
    record { records_value = r.0; records_in_bounds = r.1 }

pub returns : goal.returns
returns c =
    let r = (let fill = c.fill in
    let fit = c.fit-a in
    let measure = c.measure in
    let a = c.args in
    fitted-both fit.result measure.result _ a.out.now _ (answer-fits a.h a.bytes.now a.records.now (length a.out.now) _
    c.longer.ensures measure.result fit.result measure.ensures fit.ensures
    (sym c.bounds.ensures ∙ c.in-Ok.is)) fit.ensures c.if-number-ne-DONE.false
    (count-is a.h a.bytes.now a.records.now measure.result measure.ensures) fill.ensures) in
    record { value = r.0; out_after = r.1 }
