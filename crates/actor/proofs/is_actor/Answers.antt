-- `actor::is_actor` meets its contract. Assumes nothing.
use Rattle.std.proofs.Common.{sym, ◌∙◌}
use Rattle.actor.proofs.Laws.{actor_end, actor_other}
use Rattle.actor.proofs.is_actor.Goals as goal
use Rattle.actor.proofs.is_actor.Goals.{then-n-v, else-n-v}

pub returns-else-is_named : goal.returns-else-is_named
returns-else-is_named c =
    let v = c.args.v.now in
    let before = c.count_to-n.ensures in
    let false_is = c.if-is_named.false in
    elim c.if-n-v.branch [
      | then-n-v w ↦ false_is ∙ sym (actor_other v _ before (sym w.is_named.ensures ∙ sym w.value-is ∙ false_is))
      | else-n-v w ↦ false_is ∙ sym (actor_end v _ before w.if-n-v.false)
    ]
