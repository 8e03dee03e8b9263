-- `lookups::put_answer` meets its contract. Assumes nothing.
use mathlib.Core.Path.{sym}
use native.Mathlib.Omega.{arith}
use lib.ListN.{length-set}
use Rattle.lookups.proofs.Laws.{kept-stored, kept-past}
use Rattle.lookups.proofs.put_answer.Goals as goal

pub returns-then-answers-i : goal.returns-then-answers-i
returns-then-answers-i c =
    let args = c.args in
    sym (kept-past args.answers.now args.i args.a c.requires c.if-answers-i.true)

pub bounds-answers-at-2 : goal.bounds-answers-at-2
bounds-answers-at-2 c = simp length-set (omega arith)

pub bounds-answers-at-3 : goal.bounds-answers-at-3
bounds-answers-at-3 c = simp length-set (omega arith)

pub returns : goal.returns
returns c = let args = c.args in kept-stored args.answers.now args.i args.a
