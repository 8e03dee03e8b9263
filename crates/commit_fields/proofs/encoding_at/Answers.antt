-- `commit_fields::encoding_at` meets its contract. Assumes nothing.
use mathlib.Core.Path.{sym, ◌∙◌}
use native.Mathlib.Omega.{arith}
use Rattle.commit_line.proofs.Laws.{line-fits}
use Rattle.commit_fields.proofs.Laws.{encoding-none, encoding-some}
use Rattle.header.specs.Words.{encoding_word}
use Rattle.commit_fields.proofs.encoding_at.Goals as goal

pub overflow_add-next : goal.overflow_add-next
overflow_add-next c = omega (arith, line-fits encoding_word _ _ _ _ (sym c.value_line.ensures ∙ c.in-Some.is))

pub returns-in-None : goal.returns-in-None
returns-in-None c =
    let args = c.args in
    sym (encoding-none args.s.now args.at (sym c.value_line.ensures ∙ c.in-None.is))

pub returns-in-Some : goal.returns-in-Some
returns-in-Some c =
    let args = c.args in
    sym (encoding-some args.s.now args.at _ _ (sym c.value_line.ensures ∙ c.in-Some.is))
