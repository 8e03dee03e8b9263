-- `lookups::sought_at` meets its contract. Assumes nothing.
use Rattle.lookups.proofs.Laws.{sought-at}
use mathlib.Core.Path.{sym}
use Rattle.lookups.proofs.sought_at.Goals as goal

pub returns : goal.returns
returns c =
    sym (sought-at c.args.sought.now c.args.i c.requires)
