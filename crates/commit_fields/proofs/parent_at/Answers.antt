-- `commit_fields::parent_at` meets its contract. Assumes nothing.
use Rattle.commit_fields.specs.Parents.{parent_at}
use Rattle.commit_fields.proofs.parent_at.Goals as goal

pub returns : goal.returns
unfolding parent_at
returns c = c.id_line.ensures
