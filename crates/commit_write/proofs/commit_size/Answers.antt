-- `commit_write::commit_size` meets its contract. Assumes nothing.
use Rattle.commit_write.proofs.commit_size.Goals as goal

pub returns : goal.returns
returns c = c.measure.ensures
