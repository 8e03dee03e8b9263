-- `tree_write::refuse` meets its contract. Assumes nothing.
use Rattle.tree_write.proofs.Laws.{refusal-bad, refusal-size, no_nul, nul_inside}
use Rattle.entry.specs.Record.{name_of}
use Rattle.ground.proofs.Laws.{place-count}
use Rattle.entry.proofs.Laws.{well_parts}
use native.Mathlib.Omega.{arith}
use mathlib.Core.Path.{sym, ◌∙◌}
use Rattle.tree_write.proofs.refuse.Goals as goal

pub slice_bounds-find_nul-count : goal.slice_bounds-find_nul-count
slice_bounds-find_nul-count c = omega (arith, well_parts _ _ _ (sym c.well_formed-2.ensures ∙ c.if-well_formed.true))

pub slice_bounds-find_nul-start : goal.slice_bounds-find_nul-start
slice_bounds-find_nul-start c = omega (arith, well_parts _ _ _ (sym c.well_formed-2.ensures ∙ c.if-well_formed.true))

pub slice_bounds-find_nul-end : goal.slice_bounds-find_nul-end
slice_bounds-find_nul-end c = omega (arith, well_parts _ _ _ (sym c.well_formed-2.ensures ∙ c.if-well_formed.true))

pub overflow_sub-end : goal.overflow_sub-end
overflow_sub-end c =
    let well-formed = c.well_formed-2 in
    omega (arith, well_parts _ _ _ (sym well-formed.ensures ∙ c.if-well_formed.true))

pub returns-then-find_nul-end : goal.returns-then-find_nul-end
unfolding name_of
returns-then-find_nul-end c =
    let find-nul = c.find_nul in
    let if3 = c.if-find_nul-end in
    rw c.if-writing.true (sym (no_nul _ _ _ (sym c.well_formed-2.ensures ∙ c.if-well_formed.true)
    (sym (find-nul.ensures ∙ place-count _ _) ∙ if3.true)))

pub returns-then-writing : goal.returns-then-writing
unfolding name_of
returns-then-writing c =
    let find-nul = c.find_nul in
    let if3 = c.if-find_nul-end in
    rw c.if-writing.true (sym (nul_inside _ _ _ (sym c.well_formed-2.ensures ∙ c.if-well_formed.true)
    (λ q. if3.false (find-nul.ensures ∙ place-count _ _ ∙ q))))

pub returns-then-well_formed : goal.returns-then-well_formed
returns-then-well_formed c = rw c.if-writing.false (sym (refusal-size _ _ _ (sym c.well_formed-2.ensures ∙ c.if-well_formed.true)))

pub returns : goal.returns
returns c = sym (refusal-bad _ _ _ _ (sym c.well_formed-2.ensures ∙ c.if-well_formed.false))
