-- `probe::stopped` meets its contract. Assumes nothing.
use mathlib.Core.Path.{refl}
use Rattle.probe.specs.Probe.{stopped_of}
use Rattle.probe.proofs.stopped.Goals as goal

pub returns : goal.returns
unfolding stopped_of
returns c = refl
