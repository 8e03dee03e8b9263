-- `mode::EntryMode::is_blob` meets its contract. Assumes nothing.
use Rattle.mode.proofs.Laws.{test}
use Rattle.mode.proofs.EntryMode.is_blob.Goals as goal

pub returns : goal.returns
returns c = test 0o100000 c.sort.ensures
