-- `piece_said::marks_said` meets its contract. Assumes nothing.
use borrow.Author.Rules.{rules}
use Rattle.piece_state.proofs.Laws.{marks_are}
use Rattle.piece_said.proofs.marks_said.Goals as goal

pub returns : goal.returns
returns c =
    let x = c.args in
    marks_are x.marks.now x.first c.set_said.ensures (search rules) c.phase_said.ensures c.line_said.ensures
