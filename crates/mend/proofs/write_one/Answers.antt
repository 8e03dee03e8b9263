-- `mend::write_one` meets its contract. Assumes nothing.
use native.Mathlib.Omega.{arith}
use mathlib.Core.Path.{refl, sym, ◌∙◌}
use Rattle.entry.proofs.Laws.{decode-inside}
use Rattle.strict.proofs.Strictly.{decoded_within}
use Rattle.mend_kept.proofs.Bytes.{one-broken, one-whole}
use Rattle.mend.proofs.write_one.Goals as goal

pub slice_bounds-put-count : goal.slice_bounds-put-count
slice_bounds-put-count c =
    let decode = c.decode in
    let e = c.in-Ok in
    omega (arith, decoded_within _ _ _ _ _ (sym decode.ensures ∙ e.is), decode-inside _ _ _ _ _ (sym decode.ensures ∙ e.is))

pub slice_bounds-put-start : goal.slice_bounds-put-start
slice_bounds-put-start c =
    let decode = c.decode in
    let e = c.in-Ok in
    omega (arith, decoded_within _ _ _ _ _ (sym decode.ensures ∙ e.is), decode-inside _ _ _ _ _ (sym decode.ensures ∙ e.is))

pub slice_bounds-put-end : goal.slice_bounds-put-end
slice_bounds-put-end c =
    let decode = c.decode in
    let e = c.in-Ok in
    omega (arith, decoded_within _ _ _ _ _ (sym decode.ensures ∙ e.is), decode-inside _ _ _ _ _ (sym decode.ensures ∙ e.is))

pub overflow_sub-result : goal.overflow_sub-result
overflow_sub-result c =
    let decode = c.decode in
    let e = c.in-Ok in
    omega (arith, decoded_within _ _ _ _ _ (sym decode.ensures ∙ e.is), decode-inside _ _ _ _ _ (sym decode.ensures ∙ e.is))

pub overflow_add-result : goal.overflow_add-result
overflow_add-result c =
    let pre = c.requires in
    let decode = c.decode in
    let e = c.in-Ok in
    let put-own = c.put_own-name in
    omega (
      arith,
      put-own.ensures.value.1,
      decoded_within _ _ _ _ _ (sym decode.ensures ∙ e.is),
      decode-inside _ _ _ _ _
          (sym decode.ensures ∙ e.is),
      pre,
    )

pub returns-in-Err : goal.returns-in-Err
returns-in-Err c =
    let r = one-broken _ _ _ _ _ _ (sym c.decode.ensures ∙ c.in-Err.is) in
    record { value = r.0; out_after = r.1 }

pub returns-in-Ok : goal.returns-in-Ok
returns-in-Ok c =
    let r = (let decode = c.decode in
    let e = c.in-Ok in
    let put-own = c.put_own-name in
    let put = c.put in
    one-whole _ _ _ _ _ _ _ (sym decode.ensures ∙ e.is) _ refl _ _ _ _ put-own.ensures.out_after put-own.ensures.value.0 put.ensures refl) in
    record { value = r.0; out_after = r.1 }
