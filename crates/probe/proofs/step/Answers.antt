-- `probe::step` meets its contract. Assumes nothing.
use mathlib.Core.Path.{sym, ◌∙◌}
use native.Mathlib.Omega.{arith}
use Rattle.entry.specs.Record.{name_of}
use Rattle.entry.proofs.Laws.{well_parts}
use Rattle.probe.proofs.Going.{step_past, step_full, step-bad, step-told}
use Rattle.probe.proofs.step.Goals as goal

pub returns-then-p-at : goal.returns-then-p-at
returns-then-p-at c = sym (step_past _ _ _ _ _ c.if-p-at.true)

pub returns-then-p-ge-MOST_RECORDS : goal.returns-then-p-ge-MOST_RECORDS
returns-then-p-ge-MOST_RECORDS c = sym (step_full _ _ _ _ _ c.if-p-at.false c.if-p-ge-MOST_RECORDS.true)

pub slice_bounds-name_order-count : goal.slice_bounds-name_order-count
slice_bounds-name_order-count c = omega (arith, well_parts _ _ _ (sym c.well_formed-2.ensures ∙ c.if-well_formed.true))

pub slice_bounds-name_order-start : goal.slice_bounds-name_order-start
slice_bounds-name_order-start c = omega (arith, well_parts _ _ _ (sym c.well_formed-2.ensures ∙ c.if-well_formed.true))

pub slice_bounds-name_order-end : goal.slice_bounds-name_order-end
slice_bounds-name_order-end c = omega (arith, well_parts _ _ _ (sym c.well_formed-2.ensures ∙ c.if-well_formed.true))

pub returns-then-well_formed : goal.returns-then-well_formed
unfolding name_of
returns-then-well_formed c =
    let if1 = c.if-p-at in
    let if2 = c.if-p-ge-MOST_RECORDS in
    let well-formed = c.well_formed-2 in
    let good = sym well-formed.ensures ∙ c.if-well_formed.true in
    let folder = c.is_folder-tree.ensures in
    let ordered = c.name_order-o.ensures in
    c.moved.ensures ∙ sym (step-told _ _ _ _ _ if1.false if2.false good folder ordered)

pub returns : goal.returns
returns c =
    let if1 = c.if-p-at in
    let if2 = c.if-p-ge-MOST_RECORDS in
    let broken = sym c.well_formed-2.ensures ∙ c.if-well_formed.false in
    c.stopped.ensures ∙ sym (step-bad _ _ _ _ _ if1.false if2.false broken)
