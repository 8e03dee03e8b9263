-- The cycle of calls {walk}: the number of components left falls. Assumes nothing.
use lib.ListN.{length}
use Rattle.component.specs.Component.{pieces}
use Rattle.path_walk.proofs.+walk.Given as goal

abbrev pub decreases-walk : goal.decreases-walk
decreases-walk l = length (pieces l.path.now)
