-- `actor::is_time` meets its contract. Assumes nothing.
use Rattle.std.proofs.Common.{sym, ◌∙◌, inl, inr, arith}
use Rattle.actor.proofs.Laws.{time-none, time-long, time_end, time_other}
use Rattle.actor.proofs.is_time.Goals as goal
use Rattle.actor.proofs.is_time.Goals.{then-n-d, else-n-d}

pub returns-else-are_digits : goal.returns-else-are_digits
returns-else-are_digits c =
    let d = c.args.d.now in
    let before = c.count_to-n.ensures in
    let false_is = c.if-are_digits.false in
    elim c.if-n-d.branch [
      | then-n-d w ↦
          let h = w.if-n-d.true in
          false_is ∙ sym (time_other d _ before (λ z. omega (arith, h)) h.1 (sym w.are_digits.ensures ∙ sym w.value-is ∙ false_is))
      | else-n-d w ↦ elim w.if-n-d.either [
        | inl h ↦ false_is ∙ sym (time_end d _ before (λ z. omega (arith, h)) h.1 h.2)
        | inr (inl h) ↦ false_is ∙ sym (time-long d _ before h.1)
        | inr (inr h) ↦ false_is ∙ sym (time-none d _ before (omega (arith, h)))
      ]
    ]
