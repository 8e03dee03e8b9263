-- `border_kind::mode_kind` meets its contract. Assumes nothing.
use mathlib.Core.Path.{ap, ◌∙◌}
use Rattle.mode_table.specs.Table.{written_of}
use Rattle.border_kind.proofs.mode_kind.Goals as goal

pub returns : goal.returns
returns c = ap (λ w. w.mode) (c.written_of.ensures ∙ ap written_of c.kind.ensures)
