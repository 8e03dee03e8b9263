-- `mode_table::written_of` meets its contract. Assumes nothing.
use mathlib.Core.Path.{ap, ◌∙◌}
use native.Mathlib.Omega.{arith}
use Rattle.mode_table.specs.Table.{written_of, row_at}
use Rattle.mode_table.proofs.Laws.{place_lt}
use Rattle.mode_table.proofs.written_of.Goals as goal

pub row_at-requires : goal.row_at-requires
row_at-requires c = omega (arith, c.place.ensures, place_lt c.args.k)

pub returns : goal.returns
unfolding written_of
returns c = c.row_at.ensures ∙ ap row_at c.place.ensures
