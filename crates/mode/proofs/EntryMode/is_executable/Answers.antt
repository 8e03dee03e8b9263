-- `mode::EntryMode::is_executable` meets its contract. Assumes nothing.
use mathlib.Core.Path.{ap, ◌∙◌}
use Rattle.mode_table.specs.Kind.{is_executable}
use Rattle.mode.proofs.EntryMode.is_executable.Goals as goal

pub returns : goal.returns
returns c = c.is_executable.ensures ∙ ap is_executable c.kind.ensures
