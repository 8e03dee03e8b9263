-- `rules::rule_bounds` meets its contract. Assumes nothing.
use mathlib.Core.Path.{sym, ◌∙◌}
use Rattle.ground.specs.Verdict.{is_set}
use Rattle.rules.proofs.Laws.{set_is, rule_known, rule_other, rule_id}
use Rattle.rules.proofs.rule_bounds.Goals as goal

pub returns-then-rules : goal.returns-then-rules
unfolding is_set
returns-then-rules c = c.bounds.ensures ∙ sym (rule_known _ _ _ _ (set_is _ c.if-rules.true))

pub returns-in-Ok : goal.returns-in-Ok
unfolding is_set
returns-in-Ok c = sym (rule_other _ _ _ _ c.if-rules.false (sym c.bounds-2.ensures ∙ c.in-Ok.is))

pub returns-in-Err : goal.returns-in-Err
unfolding is_set
returns-in-Err c =
    let if1 = c.if-rules in
    let bounds2 = c.bounds-2 in
    let v = c.in-Err in
    sym (rule_id _ _ _ _ if1.false _ (sym bounds2.ensures ∙ v.is))
