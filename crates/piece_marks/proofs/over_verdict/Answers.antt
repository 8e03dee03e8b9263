-- `piece_marks::over_verdict` meets its contract. Assumes nothing.
use mathlib.Core.Path.{sym, ◌∙◌}
use Rattle.arriving.proofs.Laws.{over_none, over-bad, over-mode, over-past_mode}
use Rattle.piece_marks.proofs.over_verdict.Goals as goal

pub returns-in-Head-eq0 : goal.returns-in-Head-eq0
returns-in-Head-eq0 c = let x = c.in-Head-eq0 in over_none c.args.m _ x.is (sym x.field-0-is ∙ x.field-0-test)

pub returns-in-None : goal.returns-in-None
returns-in-None c =
    over-bad c.args.m _ c.in-Head.is (rw c.in-Head.is at c.in-Head.k-test.1) (sym c.read_head.ensures ∙ c.in-None.is)

pub returns-in-Some : goal.returns-in-Some
returns-in-Some c =
    over-mode c.args.m _ c.in-Head.is (rw c.in-Head.is at c.in-Head.k-test.1) _ _ (sym c.read_head.ensures ∙ c.in-Some.is)

pub returns-in-Name : goal.returns-in-Name
returns-in-Name c = over-past_mode c.args.m c.in-Name.is
