-- `tree_write::measure` meets its contract. Assumes nothing.
use Rattle.tree_write.specs.Write.{refusal}
use Rattle.tree_write.proofs.Laws.{measured_end, measured-bad, measured-next, refusal_well, sized, size-le, sum_fits, sum_next}
use Rattle.ground.specs.Verdict.{verdict, refused}
use Rattle.entry.specs.Record.{many}
use Rattle.entry.proofs.Laws.{records-many}
use lib.ListN.{length}
use native.Mathlib.Omega.{arith}
use mathlib.Core.Path.{◌≡◌, refl, sym, ap, ◌∙◌}
use Prim.Native.Nat.{ℕ, ◌-◌}
use Rattle.tree_write.proofs.measure.Goals as goal

pub loop-i-init : goal.loop-i-init
loop-i-init c = (omega arith, refl, omega arith, refl)

pub returns-then-number-ne-DONE : goal.returns-then-number-ne-DONE
returns-then-number-ne-DONE c =
    let loop = c.loop-i in
    let loop-test = c.loop-i-test in
    let entry_at = c.entry_at-e in
    let refuse = c.refuse-number in
    let if1 = c.if-number-ne-DONE in
    sym (loop.invariant.3 ∙ measured-bad _ _ _ _ _ _ loop-test.true entry_at.ensures _ (λ z. if1.true (refuse.ensures ∙ z)) ∙ ap
    (λ (n : ℕ). refused (verdict n loop.i)) (sym refuse.ensures))

pub entry_size-sum-requires : goal.entry_size-sum-requires
entry_size-sum-requires c =
    let a = c.args in
    let pre = c.requires in
    sized a.h a.bytes.now _ (refusal_well _ _ _ _ (sym c.refuse-number.ensures ∙ c.if-number-ne-DONE.false)) pre.1 pre.0

pub overflow_add-sum : goal.overflow_add-sum
overflow_add-sum c =
    let refuse = c.refuse-number in
    let e = c.entry_at-e.result in
    let loop = c.loop-i in
    let a = c.args in
    let pre = c.requires in
    let w = refusal_well a.h a.bytes.now e a.writing (sym refuse.ensures ∙ c.if-number-ne-DONE.false) in
    record {
      fits = sum_fits loop.i loop.sum c.entry_size-sum.result loop.invariant.2
          (rw c.entry_size-sum.ensures (size-le a.h a.bytes.now e w pre.1 pre.0)) (many (length a.records.now))
          c.loop-i-test.true (rw records-many at pre.2);
    }

pub loop-i-preserved : goal.loop-i-preserved
loop-i-preserved c =
    let refuse = c.refuse-number in
    let if1 = c.if-number-ne-DONE in
    let entry-size = c.entry_size-sum in
    let a = c.args in
    let e = c.entry_at-e.result in
    let z : refusal a.writing a.h a.bytes.now e ≡ 0 = sym refuse.ensures ∙ if1.false in
    let l = c.loop-i in (
      omega arith,
      refl,
      sum_next l.i l.sum entry-size.result l.invariant.2
          (rw entry-size.ensures
          (size-le a.h a.bytes.now e (refusal_well a.h a.bytes.now e a.writing z) c.requires.1 c.requires.0)),
      l.invariant.3 ∙ measured-next
          _ _ _ _ _ _ c.loop-i-test.true c.entry_at-e.ensures _ z ∙ rw entry-size.ensures,
    )

pub returns : goal.returns
returns c = sym (c.loop-i.invariant.3 ∙ measured_end _ _ _ _ _ _ c.loop-i-test.false)
