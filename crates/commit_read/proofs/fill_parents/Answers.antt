-- `commit_read::fill_parents` meets its contract. Assumes nothing.
use Rattle.std.proofs.Common.{◌≡◌, ◌+◌, ◌-◌, ◌*◌, sym, ap, ◌∙◌, refl, set, arith}
use native.Mathlib.Nat.{sub-zero}
use Rattle.commit_read.specs.Stored.{stored}
use Rattle.commit_read.proofs.Laws.{stored-none, stored_more, one_less}
use Rattle.commit_read.proofs.fill_parents.Goals as goal

pub loop-i-init : goal.loop-i-init
loop-i-init c = record { inside = rw sub-zero c.requires.h_bound; rest = rw sub-zero refl }

pub overflow_add-out : goal.overflow_add-out
overflow_add-out c =
    let l = c.loop-i in
    omega (arith, l.invariant.inside, one_less l.p (c.args.n - l.i) (8 + 2 * c.args.h) (omega (arith, c.loop-i-test.true)))

pub overflow_mul-p : goal.overflow_mul-p
overflow_mul-p c =
    let l = c.loop-i in
    omega (arith, l.invariant.inside, one_less l.p (c.args.n - l.i) (8 + 2 * c.args.h) (omega (arith, c.loop-i-test.true)))

pub overflow_add-p : goal.overflow_add-p
overflow_add-p c =
    let l = c.loop-i in
    omega (arith, l.invariant.inside, one_less l.p (c.args.n - l.i) (8 + 2 * c.args.h) (omega (arith, c.loop-i-test.true)))

pub loop-i-preserved : goal.loop-i-preserved
loop-i-preserved c =
    let a = c.args in
    let l = c.loop-i in
    let some : a.n - l.i ≡ 0 → ⊥ = λ e. omega (arith, c.loop-i-test.true) in
    let z : a.n - l.i - 1 ≡ a.n - (l.i + 1) = omega arith in
    record {
      inside = omega (arith, l.invariant.inside, one_less l.p (a.n - l.i) (8 + 2 * a.h) some, ap (λ k. k * (8 + 2 * a.h)) z);
      rest = l.invariant.rest ∙ stored_more a.h l.out l.i l.p (a.n - l.i) some ∙ ap (stored a.h (set l.out l.i (l.p + 7)) (l.i + 1) (l.p + (8 + 2 * a.h))) z;
    }

pub returns : goal.returns
returns c =
    let l = c.loop-i in
    sym (l.invariant.rest ∙ stored-none c.args.h l.out l.i l.p (c.args.n - l.i) (omega (arith, c.loop-i-test.false)))
