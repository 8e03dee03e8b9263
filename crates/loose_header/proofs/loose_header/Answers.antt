-- `loose_header::loose_header` meets its contract. Assumes nothing.
use Rattle.output.proofs.Laws.{refused-both, fitted-both}
use Rattle.loose_header.proofs.Digits.{decimal-part}
use Rattle.loose_header.proofs.Laws.{header_other, header-kind, header_need, digits-part, header-stored}
use lib.Seq.{length-take-le}
use native.Mathlib.Omega.{arith}
use mathlib.Core.Path.{sym, ◌∙◌}
use Rattle.loose_header.proofs.loose_header.Goals as goal

pub returns-then-n-eq0 : goal.returns-then-n-eq0
returns-then-n-eq0 c =
    let r = refused-both _ _ _ (header_other _ _ _ (sym c.kind_word-word.ensures.0 ∙ c.if-n-eq0.true)) (λ q. omega arith) in
    record { value = r.0; out_after = r.1 }

pub overflow_sub-need : goal.overflow_sub-need
overflow_sub-need c = omega (arith, (decimal-part c.decimal_of-d.result _ c.decimal_of-d.ensures).0)

pub returns-then-number-ne-DONE : goal.returns-then-number-ne-DONE
returns-then-number-ne-DONE c =
    let r = (let kind-word = c.kind_word-word in
    let if1 = c.if-n-eq0 in
    let decimal-of = c.decimal_of-d in
    let fit = c.fit-a in
    let if2 = c.if-number-ne-DONE in
    let w = kind-word.ensures in
    let d = decimal-part decimal-of.result _ decimal-of.ensures in
    refused-both _ _ _ (header-kind _ _ _ (λ q. if1.false (w.0 ∙ q)) _ (header_need _ _ _ _ _ w.0 d.1 d.2) ∙ sym fit.ensures) if2.true) in
    record { value = r.0; out_after = r.1 }

pub slice_bounds-put_ended-end : goal.slice_bounds-put_ended-end
slice_bounds-put_ended-end c = sym (length-take-le _ _ (omega arith))

pub slice_bounds-put_ended-count : goal.slice_bounds-put_ended-count
slice_bounds-put_ended-count c =
    let decimal-of = c.decimal_of-d in
    omega (arith, (decimal-part decimal-of.result _ decimal-of.ensures).0)

pub slice_bounds-put_ended-start : goal.slice_bounds-put_ended-start
slice_bounds-put_ended-start c =
    let decimal-of = c.decimal_of-d in
    omega (arith, (decimal-part decimal-of.result _ decimal-of.ensures).0)

pub slice_bounds-put_ended-end-2 : goal.slice_bounds-put_ended-end-2
slice_bounds-put_ended-end-2 c =
    let d = c.decimal_of-d in
    omega (arith, (decimal-part d.result _ d.ensures).1)

pub returns : goal.returns
returns c =
    let r = (let put-ended2 = c.put_ended-2 in
    let a = c.args in
    let w = c.kind_word-word.ensures in
    let t = c.decimal_of-d.result in
    let d = decimal-part t a.size c.decimal_of-d.ensures in
    let f = c.fit-a.ensures in
    let n = header_need a.kind a.size _ _ _ w.0 d.1 d.2 in
    fitted-both _ _ _ a.out.now _ (header-kind _ _ _ (λ q. c.if-n-eq0.false (w.0 ∙ q)) _ n ∙ sym f) f c.if-number-ne-DONE.false (λ z. sym n)
    (header-stored _ _ _ _ _ _ _ _ w.3 (digits-part a.size t.at t.text d.1 d.2) (omega arith) c.put_ended.ensures
    put-ended2.ensures)) in
    record { value = r.0; out_after = r.1 }
