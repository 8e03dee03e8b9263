-- `mode::EntryMode::is_commit` meets its contract. Assumes nothing.
use Rattle.mode.proofs.Laws.{test}
use Rattle.mode.proofs.EntryMode.is_commit.Goals as goal

pub returns : goal.returns
returns c = test 0o160000 c.sort.ensures
