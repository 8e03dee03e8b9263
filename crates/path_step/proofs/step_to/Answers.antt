-- `path_step::step_to` meets its contract. Assumes nothing.
use mathlib.Core.Path.{◌∙◌}
use native.Mathlib.Omega.{arith}
use Rattle.path_step.proofs.Laws.{spot_inside, spot_absent, spot_other, spot_none, spot_within, spot_entry}
use Rattle.path_step.proofs.step_to.Goals as goal

pub returns-in_err-f : goal.returns-in_err-f
returns-in_err-f c = c.from_residual.ensures ∙ spot_absent _ _ _ _ _ c.find_object.ensures c.in_err-f.was

pub returns-then-f-ne-TREE : goal.returns-then-f-ne-TREE
returns-then-f-ne-TREE c = spot_other _ _ _ _ _ c.find_object.ensures _ c.in_ok-f.was c.if-f-ne-TREE.true

pub slice_bounds-find_entry-count : goal.slice_bounds-find_entry-count
slice_bounds-find_entry-count c = omega (arith, spot_inside c.args.h c.args.s.now c.args.id.now c.args.name.now _ c.find_object.ensures _ c.in_ok-f.was)

pub slice_bounds-find_entry-start : goal.slice_bounds-find_entry-start
slice_bounds-find_entry-start c = omega (arith, spot_inside c.args.h c.args.s.now c.args.id.now c.args.name.now _ c.find_object.ensures _ c.in_ok-f.was)

pub slice_bounds-find_entry-end : goal.slice_bounds-find_entry-end
slice_bounds-find_entry-end c = omega (arith, spot_inside c.args.h c.args.s.now c.args.id.now c.args.name.now _ c.find_object.ensures _ c.in_ok-f.was)

pub returns-in_err-e : goal.returns-in_err-e
returns-in_err-e c =
    c.from_residual-in_err-e.ensures
    ∙ spot_none _ _ _ _ _ c.find_object.ensures _ c.in_ok-f.was c.if-f-ne-TREE.false _ c.find_entry.ensures c.in_err-e.was

pub overflow_add-result : goal.overflow_add-result
overflow_add-result c =
    omega (
      arith,
      spot_within c.args.h c.args.s.now c.args.id.now c.args.name.now _ c.find_object.ensures _ c.in_ok-f.was c.if-f-ne-TREE.false _ c.find_entry.ensures _ c.in_ok-e.was,
    )

pub returns : goal.returns
returns c = spot_entry _ _ _ _ _ c.find_object.ensures _ c.in_ok-f.was c.if-f-ne-TREE.false _ c.find_entry.ensures _ c.in_ok-e.was
