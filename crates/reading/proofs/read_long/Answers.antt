-- `reading::read_long` meets its contract: the array that it lends has only zeros, which keep nothing. Assumes nothing.
use Rattle.reading.proofs.Lengths.{none_kept}
use Rattle.reading.proofs.read_long.Goals as goal

pub read_by-requires : goal.read_by-requires
read_by-requires c = none_kept 131072 _ _
