-- `commit_write::put_digits` meets its contract. Assumes nothing.
use Rattle.std.proofs.Common.{[], ◌∷◌, ◌∙◌, get_or, arith}
use native.Mathlib.Nat.{add-zero}
use Rattle.commit_write.specs.Written.{lower_digit}
use Rattle.commit_write.proofs.Laws.{left-next, left-none, digits-end, digits_more}
use Rattle.commit_write.proofs.put_digits.Goals as goal

pub loop-i-init : goal.loop-i-init
loop-i-init c = let a = c.args in record { holds = rw (add-zero a.at); past = rw (add-zero a.at) }

pub loop-i-preserved : goal.loop-i-preserved
loop-i-preserved c =
    let d = c.args.digits.now in
    let i = c.loop-i.i in
    left-next (lower_digit (get_or d i 0) ∷ []) _ _ _ c.loop-i.invariant (digits_more d i c.loop-i-test.true)
    (c.put_byte.ensures ∙ rw c.lower.ensures) (omega arith)

pub returns : goal.returns
returns c = (left-none c.loop-i.invariant (digits-end c.args.digits.now c.loop-i.i c.loop-i-test.false)).1
