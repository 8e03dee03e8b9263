-- `commit_read::fill_headers` meets its contract. Assumes nothing.
use Prim.Native.Nat.{◌-◌}
use mathlib.Core.Path.{refl, sym, ◌∙◌}
use native.Mathlib.Omega.{arith}
use Rattle.extra_header.proofs.Laws.{extra_next}
use Rattle.commit_fields.proofs.Laws.{heads_end, heads-more}
use Rattle.commit_read.proofs.Laws.{written-end, written-more}
use Rattle.commit_read.proofs.fill_headers.Goals as goal

pub loop-x-init : goal.loop-x-init
loop-x-init c = (omega arith, refl, refl)

pub shape_of-out-in-None : goal.shape_of-out-in-None
shape_of-out-in-None c = c.loop-x.invariant.1

pub returns-in-None : goal.returns-in-None
returns-in-None c =
    let loop = c.loop-x in
    sym (loop.invariant.2 ∙ written-end loop.out loop.n _ (heads_end _ _ _ (sym c.extra_at.ensures ∙ c.in-None.is)))

pub overflow_add-n : goal.overflow_add-n
overflow_add-n c =
    let x-at = c.in-Some in
    let extra-at = c.extra_at in
    let x = extra_next _ _ (sym extra-at.ensures ∙ x-at.is) in
    omega (arith, x)

pub loop-x-smaller : goal.loop-x-smaller
loop-x-smaller c =
    let x-at = c.in-Some in
    let extra-at = c.extra_at in
    let x = extra_next _ _ (sym extra-at.ensures ∙ x-at.is) in
    omega (arith, x)

pub loop-x-preserved : goal.loop-x-preserved
loop-x-preserved c =
    let put_header = c.put_header in
    let x-at = c.in-Some in
    let extra-at = c.extra_at in
    let loop = c.loop-x in
    let g = sym extra-at.ensures ∙ x-at.is in
    let x = extra_next _ _ g in (
      omega (arith, x, loop.invariant.0),
      put_header.auto.headers ∙ loop.invariant.1,
      loop.invariant.2 ∙ written-more _ _ loop.n _ _
          (heads-more _ _ _ (omega (arith, x, loop.invariant.0)) g) put_header.ensures,
    )
