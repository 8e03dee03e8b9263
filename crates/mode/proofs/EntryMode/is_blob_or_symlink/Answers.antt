-- `mode::EntryMode::is_blob_or_symlink` meets its contract. Assumes nothing.
use mathlib.Core.Path.{ap, ◌∙◌}
use Rattle.mode_table.specs.Kind.{is_file_or_link}
use Rattle.mode.proofs.EntryMode.is_blob_or_symlink.Goals as goal

pub returns : goal.returns
returns c = c.is_file_or_link.ensures ∙ ap is_file_or_link c.kind.ensures
