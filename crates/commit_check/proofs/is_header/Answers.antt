-- `commit_check::is_header` meets its contract. Assumes nothing.
use mathlib.Core.Path.{sym, ◌∙◌}
use native.Mathlib.Omega.{arith}
use Rattle.std.proofs.lemmas.Grind.{common_steps}
use Rattle.header.proofs.Laws.{well_parts}
use Rattle.commit_check.proofs.Laws.{header-bad, header-one, header_other}
use Rattle.commit_check.proofs.is_header.Goals as goal

pub slice_bounds-is_folded-count : goal.slice_bounds-is_folded-count
slice_bounds-is_folded-count c = omega (arith, well_parts _ _ (sym c.well_formed-2.ensures ∙ c.if-well_formed.true))

pub slice_bounds-is_folded-start : goal.slice_bounds-is_folded-start
slice_bounds-is_folded-start c = omega (arith, well_parts _ _ (sym c.well_formed-2.ensures ∙ c.if-well_formed.true))

pub slice_bounds-is_folded-end : goal.slice_bounds-is_folded-end
slice_bounds-is_folded-end c = omega (arith, well_parts _ _ (sym c.well_formed-2.ensures ∙ c.if-well_formed.true))

pub returns-then-x-ne1 : goal.returns-then-x-ne1
returns-then-x-ne1 c = grind (arith, common_steps, header_other)

pub returns-else-x-ne1 : goal.returns-else-x-ne1
returns-else-x-ne1 c = grind (arith, common_steps, header-one)

pub returns-else-well_formed : goal.returns-else-well_formed
returns-else-well_formed c = grind (arith, common_steps, header-bad)
