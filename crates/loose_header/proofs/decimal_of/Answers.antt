-- `loose_header::decimal_of` meets its contract. Assumes nothing.
use Rattle.loose_header.proofs.Digits.{two_digits, tenth_at, store-start, store-more, store-last, zeros-before, decimal-text}
use lib.ListN.{length-set}
use native.Mathlib.Omega.{arith}
use mathlib.Core.Path.{refl, sym, ◌∙◌}
use Rattle.loose_header.proofs.decimal_of.Goals as goal

pub loop-rest-init : goal.loop-rest-init
loop-rest-init c = (omega arith, omega arith, refl, omega (arith, c.ranges), store-start _, refl)

pub loop-rest-preserved : goal.loop-rest-preserved
loop-rest-preserved c =
    let l = c.loop-rest in
    let loop-test = c.loop-rest-test in
    let h = two_digits l.at l.rest l.invariant.3 loop-test.true in (
      omega arith,
      omega arith,
      simp length-set l.invariant.2,
      tenth_at l.at l.rest l.invariant.0 l.invariant.3,
      l.invariant.4 ∙ store-more l.text l.at l.rest l.invariant.0 (omega arith) loop-test.true,
      zeros-before l.text l.at _ l.invariant.0 l.invariant.5,
    )

pub returns : goal.returns
returns c =
    let l = c.loop-rest in
    decimal-text _ _ _ (simp length-set l.invariant.2) (omega arith) (zeros-before l.text l.at _ l.invariant.0 l.invariant.5)
    (sym (l.invariant.4 ∙ store-last l.text l.at l.rest l.invariant.0 (omega arith) (omega arith)))
