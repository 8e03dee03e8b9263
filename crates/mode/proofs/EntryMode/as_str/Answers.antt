-- `mode::EntryMode::as_str` meets its contract. Assumes nothing.
use mathlib.Core.Path.{ap, ◌∙◌}
use Rattle.mode_table.specs.Table.{written_of}
use Rattle.mode.specs.Mode.{word_of}
use Rattle.mode_table.specs.declared.Written.{Written}
use Rattle.mode.proofs.EntryMode.as_str.Goals as goal

pub returns : goal.returns
unfolding word_of
returns c = ap (λ (r : Written). r.word) (c.written_of-row.ensures ∙ ap written_of c.kind.ensures)
