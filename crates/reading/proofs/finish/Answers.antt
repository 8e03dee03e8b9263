-- `reading::finish` meets its contract. Assumes nothing.
use Rattle.reading.proofs.Lengths.{none_kept}
use Rattle.reading.proofs.finish.Goals as goal

pub finish_by-requires : goal.finish_by-requires
finish_by-requires c = none_kept 1 _ _
