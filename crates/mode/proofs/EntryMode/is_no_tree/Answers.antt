-- `mode::EntryMode::is_no_tree` meets its contract. Assumes nothing.
use mathlib.Core.Path.{ap}
use mathlib.Core.Bool.{not}
use Rattle.mode.specs.Mode.{is_tree}
use Rattle.mode.proofs.Laws.{test}
use Rattle.mode.proofs.EntryMode.is_no_tree.Goals as goal

pub returns : goal.returns
unfolding is_tree
returns c = ap not (test 0o40000 c.sort.ensures)
