-- `walk::levels` meets its contract. Assumes nothing.
use mathlib.Core.Path.{refl}
use Rattle.walk.proofs.levels.Goals as goal

pub returns : goal.returns
returns c = refl
