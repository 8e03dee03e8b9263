-- `entry_record::is_folder` meets its contract. Assumes nothing.
use mathlib.Core.Path.{◌∙◌}
use Rattle.entry.specs.Record.{folder_of}
use Rattle.entry.proofs.Laws.{folder-low}
use Rattle.entry_record.proofs.is_folder.Goals as goal

pub returns : goal.returns
unfolding folder_of
returns c = c.is_tree.ensures ∙ folder-low _
