-- `commit_fields::actor_at` meets its contract. Assumes nothing.
use mathlib.Core.Path.{sym, ◌∙◌}
use native.Mathlib.Omega.{arith}
use Rattle.commit_line.proofs.Laws.{line-fits}
use Rattle.commit_fields.proofs.Laws.{actor_missing, actor_bad, actor_good}
use Rattle.commit_fields.proofs.actor_at.Goals as goal

pub slice_bounds-is_actor-count : goal.slice_bounds-is_actor-count
slice_bounds-is_actor-count c = omega (arith, line-fits _ _ _ _ _ (sym c.value_line.ensures ∙ c.in-Some.is))

pub slice_bounds-is_actor-start : goal.slice_bounds-is_actor-start
slice_bounds-is_actor-start c = omega (arith, line-fits _ _ _ _ _ (sym c.value_line.ensures ∙ c.in-Some.is))

pub slice_bounds-is_actor-end : goal.slice_bounds-is_actor-end
slice_bounds-is_actor-end c = omega (arith, line-fits _ _ _ _ _ (sym c.value_line.ensures ∙ c.in-Some.is))

pub returns-in_default : goal.returns-in_default
returns-in_default c =
    let a = c.args in
    sym (actor_missing a.s.now a.at a.word.now a.field (sym c.value_line.ensures ∙ c.in_default.is))

pub returns-then-not-is_actor : goal.returns-then-not-is_actor
returns-then-not-is_actor c =
    let a = c.args in
    sym (actor_bad a.s.now a.at a.word.now a.field _ _ (sym c.value_line.ensures ∙ c.in-Some.is)
    (sym c.is_actor.ensures ∙ c.if-not-is_actor.true))

pub returns : goal.returns
returns c =
    let a = c.args in
    sym (actor_good a.s.now a.at a.word.now a.field _ _ (sym c.value_line.ensures ∙ c.in-Some.is)
    (sym c.is_actor.ensures ∙ c.if-not-is_actor.false))
