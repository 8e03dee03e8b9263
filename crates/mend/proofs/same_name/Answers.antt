-- `mend::same_name` meets its contract. Assumes nothing.
use native.Mathlib.Omega.{arith}
use mathlib.Core.Path.{sym, ◌∙◌}
use Rattle.strict.proofs.Strictly.{decoded_within}
use Rattle.mend_kept.proofs.Bisect.{has-broken, has-whole}
use Rattle.mend.proofs.same_name.Goals as goal

pub slice_bounds-same_bytes-count : goal.slice_bounds-same_bytes-count
slice_bounds-same_bytes-count c = omega (arith, decoded_within _ _ _ _ _ (sym c.decode.ensures ∙ c.in-Ok.is))

pub slice_bounds-same_bytes-start : goal.slice_bounds-same_bytes-start
slice_bounds-same_bytes-start c = omega (arith, decoded_within _ _ _ _ _ (sym c.decode.ensures ∙ c.in-Ok.is))

pub slice_bounds-same_bytes-end : goal.slice_bounds-same_bytes-end
slice_bounds-same_bytes-end c = omega (arith, decoded_within _ _ _ _ _ (sym c.decode.ensures ∙ c.in-Ok.is))

pub returns-in-Err : goal.returns-in-Err
returns-in-Err c = has-broken _ _ _ _ (sym c.decode.ensures ∙ c.in-Err.is)

pub returns-in-Ok : goal.returns-in-Ok
returns-in-Ok c =
    let decode = c.decode in
    let e = c.in-Ok in
    let same_bytes = c.same_bytes in
    same_bytes.ensures ∙ has-whole _ _ _ _ _ (sym decode.ensures ∙ e.is)
