use Rattle.compare.proofs.Laws.{turned_two}
use Rattle.compare.proofs.turn_2.Goals as goal

pub returns : goal.returns
returns c = turned_two _
