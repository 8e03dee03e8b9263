-- `output::put_ended` meets its contract. Assumes nothing.
use Rattle.output.proofs.Laws.{sets-ended, ended-past}
use native.Mathlib.Omega.{arith}
use mathlib.Core.Path.{sym, ◌∙◌}
use Rattle.output.proofs.put_ended.Goals as goal
use Rattle.output.proofs.put_ended.Goals.{else-at-out-via-then-at-out+else-n-out, else-at-out-via-else-at-out}

pub returns-then-n-out : goal.returns-then-n-out
returns-then-n-out c =
    let a = c.args in
    rw c.put.ensures (sym (sets-ended a.out.now a.at a.piece.now a.last))

pub returns-else-at-out : goal.returns-else-at-out
returns-else-at-out c =
    let a = c.args in
    let past = ended-past a.out.now a.at a.piece.now a.last in
    c.put.ensures ∙ sym (elim c.else-at-out.branch [
      | else-at-out-via-then-at-out+else-n-out w ↦ past (omega arith)
      | else-at-out-via-else-at-out w ↦ past (omega arith)
    ])
