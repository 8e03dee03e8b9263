-- `probe::answer` meets its contract. Assumes nothing.
use mathlib.Core.Path.{refl}
use Rattle.probe.specs.Probe.{answer_of}
use Rattle.probe.proofs.answer.Goals as goal

pub returns : goal.returns
unfolding answer_of
returns c = refl
