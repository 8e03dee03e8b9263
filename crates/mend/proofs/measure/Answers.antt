-- `mend::measure` meets its contract. Assumes nothing.
use Rattle.mend.proofs.measure.Goals as goal

pub returns : goal.returns
returns c = c.settle.ensures.value
