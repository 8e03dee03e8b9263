-- `lookups::look` meets its contract. Assumes nothing.
use Rattle.lookups.proofs.Laws.{one-bad, one_single, well_inside}
use mathlib.Core.Path.{sym, ◌∙◌}
use native.Mathlib.Omega.{arith}
use Rattle.lookups.proofs.look.Goals as goal

pub slice_bounds-bisect_entry-count : goal.slice_bounds-bisect_entry-count
slice_bounds-bisect_entry-count c = omega (arith, (well_inside _ _ (sym c.well_sought.ensures ∙ c.if-well_sought.true)).0)

pub slice_bounds-bisect_entry-start : goal.slice_bounds-bisect_entry-start
slice_bounds-bisect_entry-start c =
    let inside = well_inside _ _ (sym c.well_sought.ensures ∙ c.if-well_sought.true) in
    omega (arith, inside.0, inside.1)

pub slice_bounds-bisect_entry-end : goal.slice_bounds-bisect_entry-end
slice_bounds-bisect_entry-end c =
    let inside = well_inside _ _ (sym c.well_sought.ensures ∙ c.if-well_sought.true) in
    omega (arith, inside.0, inside.1)

pub returns-then-well_sought : goal.returns-then-well_sought
returns-then-well_sought c =
    let well-sought = c.well_sought in
    c.bisect_entry.ensures ∙ sym (one_single _ _ _ _ _ (sym well-sought.ensures ∙ c.if-well_sought.true))

pub returns : goal.returns
returns c = sym (one-bad _ _ _ _ _ (sym c.well_sought.ensures ∙ c.if-well_sought.false))
