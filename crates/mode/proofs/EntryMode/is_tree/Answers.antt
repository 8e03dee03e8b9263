-- `mode::EntryMode::is_tree` meets its contract. Assumes nothing.
use Rattle.mode.specs.Mode.{is_tree}
use Rattle.mode.proofs.Laws.{test}
use Rattle.mode.proofs.EntryMode.is_tree.Goals as goal

pub returns : goal.returns
unfolding is_tree
returns c = test 0o40000 c.sort.ensures
