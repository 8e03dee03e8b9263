use Rattle.fate.proofs.Laws.{own_row}
use Rattle.fate.proofs.own_text.Goals as goal

pub returns : goal.returns
returns c = own_row _ _ _ c.written_of-row.ensures c.kind.ensures
