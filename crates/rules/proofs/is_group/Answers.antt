-- `rules::is_group` meets its contract. Assumes nothing.
use Rattle.rules.proofs.Laws.{group-text}
use Rattle.rules.proofs.is_group.Goals as goal

pub returns : goal.returns
returns c = rw c.same_bytes.ensures (group-text c.args.rules c.args.text.now)
