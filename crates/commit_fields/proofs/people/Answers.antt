-- `commit_fields::people` meets its contract. Assumes nothing.
use mathlib.Core.Path.{sym, ◌∙◌}
use native.Mathlib.Omega.{arith}
use Rattle.std.proofs.lemmas.Result.{err_from_is_err_and}
use Rattle.header.specs.Words.{author_word, committer_word}
use Rattle.commit_fields.proofs.Laws.{actor_fits, people-author, people-committer, people-both}
use Rattle.commit_fields.proofs.people.Goals as goal

pub returns-in_err-a : goal.returns-in_err-a
returns-in_err-a c =
    let p = err_from_is_err_and c.from_residual.result c.from_residual.ensures.1 in
    rw (p.1, p.2) (sym (people-author c.args.s.now c.args.n c.args.p _ (sym c.actor_at.ensures ∙ c.in_err-a.was)))

pub overflow_add-e : goal.overflow_add-e
overflow_add-e c = omega (arith, actor_fits _ _ author_word _ _ _ (sym c.actor_at.ensures ∙ c.in_ok-a.was))

pub returns-in_err-b : goal.returns-in_err-b
returns-in_err-b c =
    let p = err_from_is_err_and c.from_residual-in_err-b.result c.from_residual-in_err-b.ensures.1 in
    rw (p.1, p.2)
    (sym (people-committer c.args.s.now c.args.n c.args.p _ _ (sym c.actor_at.ensures ∙ c.in_ok-a.was) _ (sym c.actor_at-2.ensures ∙ c.in_err-b.was)))

pub ending-requires : goal.ending-requires
ending-requires c = actor_fits _ _ committer_word _ _ _ (sym c.actor_at-2.ensures ∙ c.in_ok-b.was)

pub returns : goal.returns
returns c =
    c.ending.ensures ∙ sym (people-both c.args.s.now c.args.n c.args.p _ _ (sym c.actor_at.ensures ∙ c.in_ok-a.was)
    _ _ (sym c.actor_at-2.ensures ∙ c.in_ok-b.was))
