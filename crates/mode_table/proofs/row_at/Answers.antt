-- `mode_table::row_at` meets its contract: the constant is the list of the rows. Assumes nothing.
use Rattle.mode_table.specs.Table.{rows, row_at}
use Rattle.ground.proofs.Laws.{get_d_any}
use Rattle.mode_table.proofs.row_at.Goals as goal

pub returns : goal.returns
unfolding rows row_at
returns c = get_d_any rows c.args.i _ _ c.requires
