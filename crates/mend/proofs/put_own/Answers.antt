-- `mend::put_own` meets its contract. Assumes nothing.
use Prim.Native.Nat.{ℕ}
use native.Mathlib.Omega.{arith}
use mathlib.Core.Path.{sym, ap, ◌∙◌}
use mathlib.Core.List.{List, [], ◌∷◌, ◌++◌}
use lib.Seq.{sets, length-take-le}
use Rattle.fate.proofs.Laws.{own-fits, own-length, own-shown}
use Rattle.mend.proofs.put_own.Goals as goal

pub slice_bounds-digits-end : goal.slice_bounds-digits-end
slice_bounds-digits-end c = (own-fits _ _ c.own_text-own.ensures).1

pub slice_bounds-put_ended-end : goal.slice_bounds-put_ended-end
slice_bounds-put_ended-end c = sym (length-take-le _ _ (own-fits _ _ c.own_text-own.ensures).1)

pub overflow_add-result : goal.overflow_add-result
overflow_add-result c = omega (arith, (own-fits _ _ c.own_text-own.ensures).0)

pub overflow_add-result-2 : goal.overflow_add-result-2
overflow_add-result-2 c = omega (arith, (own-fits _ _ c.own_text-own.ensures).0)

pub returns : goal.returns
returns c =
    let args = c.args in
    let own-text = c.own_text-own in
    let put_ended = c.put_ended in record {
      value = (omega (arith, own-length _ _ own-text.ensures), omega (arith, (own-fits _ _ own-text.ensures).0));
      out_after = put_ended.ensures ∙ ap
          (λ (t : List ℕ). sets args.out.now args.at (t ++ 32 ∷ [])) (own-shown _ _ own-text.ensures);
    }
