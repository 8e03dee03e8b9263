-- `piece_judge::meet` meets its contract. Assumes nothing.
use mathlib.Core.Path.{sym, ◌∙◌}
use mathlib.Core.Logic.{inl, inr}
use Rattle.arriving.proofs.Laws.{meet-decided}
use Rattle.piece_judge.proofs.meet.Goals as goal

pub returns-in-Over : goal.returns-in-Over
returns-in-Over c = let x = c.args in sym c.in-Over.is ∙ meet-decided x.last x.size x.x x.b x.stand (inl c.in-Over.is)

pub returns-in-NotOver : goal.returns-in-NotOver
returns-in-NotOver c = let x = c.args in sym c.in-NotOver.is ∙ meet-decided x.last x.size x.x x.b x.stand (inr c.in-NotOver.is)
