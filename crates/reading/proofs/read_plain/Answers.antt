-- `reading::read_plain` meets its contract. Assumes nothing.
use Rattle.reading.proofs.Lengths.{none_kept}
use Rattle.reading.proofs.read_plain.Goals as goal

pub read_by-requires : goal.read_by-requires
read_by-requires c = none_kept 2040 _ _
