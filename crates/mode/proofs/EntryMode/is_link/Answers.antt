-- `mode::EntryMode::is_link` meets its contract. Assumes nothing.
use Rattle.mode.proofs.Laws.{test}
use Rattle.mode.proofs.EntryMode.is_link.Goals as goal

pub returns : goal.returns
returns c = test 0o120000 c.sort.ensures
