-- `unfold::unfold` meets its contract. Assumes nothing.
use mathlib.Core.Path.{sym, ◌∙◌}
use native.Mathlib.Omega.{arith}
use lib.ListN.{length}
use Prim.Native.Nat.{ℕ}
use Rattle.ground.specs.Verdict.{size_gate}
use Rattle.header.proofs.Laws.{told, well_parts}
use Rattle.unfold.proofs.Laws.{plan_shut, plan_record, plan_form, plan_short, plan_stores, answer-refuses, after-refuses, answer-stores, after-stores}
use Rattle.unfold.proofs.unfold.Goals as goal

pub slice_bounds-v-count : goal.slice_bounds-v-count
slice_bounds-v-count c = omega (arith, well_parts _ _ (sym c.well_formed-in-Ok.ensures ∙ c.if-well_formed.true))

pub slice_bounds-v-start : goal.slice_bounds-v-start
slice_bounds-v-start c = omega (arith, well_parts _ _ (sym c.well_formed-in-Ok.ensures ∙ c.if-well_formed.true))

pub slice_bounds-v-end : goal.slice_bounds-v-end
slice_bounds-v-end c = omega (arith, well_parts _ _ (sym c.well_formed-in-Ok.ensures ∙ c.if-well_formed.true))

pub returns-then-out-need : goal.returns-then-out-need
returns-then-out-need c =
    let has-form = c.has_form in
    let if1 = c.if-well_formed in
    let well-formed = c.well_formed-in-Ok in
    let enum_told = c.in-Ok in
    let sizes = c.sizes in
    let longer = c.longer in
    let args = c.args in
    let g = told (λ (k : ℕ). size_gate k 0) longer.ensures sizes.ensures enum_told.is in
    let p = plan_short args.bytes.now args.x (length args.out.now) g (sym well-formed.ensures ∙ if1.true)
    (sym has-form.ensures ∙ c.if-has_form.true) _ c.put_plain-need.ensures.value c.if-out-need.true in
    record { answer = sym (answer-refuses _ args.out.now _ p); out = sym (after-refuses _ args.out.now _ p) }

pub returns-then-has_form : goal.returns-then-has_form
returns-then-has_form c =
    let args = c.args in
    let longer = c.longer in
    let sizes = c.sizes in
    let enum_told = c.in-Ok in
    let well-formed = c.well_formed-in-Ok in
    let if1 = c.if-well_formed in
    let has-form = c.has_form in
    let if2 = c.if-has_form in
    let plain-len = c.put_plain-need in
    let if3 = c.if-out-need in
    let plain-into = c.put_plain in
    let g = told (λ (k : ℕ). size_gate k 0) longer.ensures sizes.ensures enum_told.is in
    let p = plan_stores args.bytes.now args.x (length args.out.now) g (sym well-formed.ensures ∙ if1.true)
    (sym has-form.ensures ∙ if2.true) _ plain-len.ensures.value if3.false in record {
      answer = sym (answer-stores _ args.out.now _ p _ plain-len.ensures.value);
      out = plain-into.ensures.out_after ∙ sym
          (after-stores _ args.out.now _ p (omega (arith, plain-len.ensures.value, if3.false)));
    }

pub returns-then-well_formed : goal.returns-then-well_formed
returns-then-well_formed c =
    let if1 = c.if-well_formed in
    let well-formed = c.well_formed-in-Ok in
    let enum_told = c.in-Ok in
    let sizes = c.sizes in
    let longer = c.longer in
    let args = c.args in
    let g = told (λ (k : ℕ). size_gate k 0) longer.ensures sizes.ensures enum_told.is in
    let p = plan_form args.bytes.now args.x (length args.out.now) g (sym well-formed.ensures ∙ if1.true)
    (sym c.has_form.ensures ∙ c.if-has_form.false) in
    record { answer = sym (answer-refuses _ args.out.now _ p); out = sym (after-refuses _ args.out.now _ p) }

pub returns-in-Err : goal.returns-in-Err
returns-in-Err c =
    let sizes = c.sizes in
    let longer = c.longer in
    let args = c.args in
    let g = told (λ (k : ℕ). size_gate k 0) longer.ensures sizes.ensures c.in-Err.is in
    let p = plan_shut args.bytes.now args.x (length args.out.now) _ g in
    record { answer = sym (answer-refuses _ args.out.now _ p); out = sym (after-refuses _ args.out.now _ p) }

pub returns-else-well_formed : goal.returns-else-well_formed
returns-else-well_formed c =
    let sizes = c.sizes in
    let longer = c.longer in
    let args = c.args in
    let g = told (λ (k : ℕ). size_gate k 0) longer.ensures sizes.ensures c.in-Ok.is in
    let p = plan_record args.bytes.now args.x (length args.out.now) g (sym c.well_formed-in-Ok.ensures ∙ c.if-well_formed.false) in
    record { answer = sym (answer-refuses _ args.out.now _ p); out = sym (after-refuses _ args.out.now _ p) }
