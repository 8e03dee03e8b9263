-- `commit_fields::count_headers` meets its contract. Assumes nothing.
use mathlib.Core.Path.{refl, sym, ◌∙◌}
use native.Mathlib.Omega.{arith}
use Rattle.extra_header.proofs.Laws.{extra_next}
use Rattle.commit_fields.proofs.Laws.{heads_end, heads-more, tally_end, tally-more}
use Rattle.commit_fields.proofs.count_headers.Goals as goal

pub loop-next-init : goal.loop-next-init
loop-next-init c = (omega arith, refl)

pub returns : goal.returns
returns c =
    let loop = c.loop-next in
    sym (loop.invariant.1 ∙ tally_end loop.n _ (heads_end _ _ _ (sym c.extra_at.ensures ∙ c.in_default.is)))

pub overflow_add-n : goal.overflow_add-n
overflow_add-n c = let x = extra_next _ _ (sym c.extra_at.ensures ∙ c.in-Some.is) in omega (arith, x)

pub loop-next-smaller : goal.loop-next-smaller
loop-next-smaller c = let x = extra_next _ _ (sym c.extra_at.ensures ∙ c.in-Some.is) in omega (arith, x)

pub loop-next-preserved : goal.loop-next-preserved
loop-next-preserved c =
    let extra-at = c.extra_at in
    let loop = c.loop-next in
    let g = sym extra-at.ensures ∙ c.in-Some.is in
    let x = extra_next _ _ g in
    (omega (arith, x, loop.invariant.0), loop.invariant.1 ∙ tally-more loop.n _ _ (heads-more _ _ _ (omega (arith, x, loop.invariant.0)) g))
