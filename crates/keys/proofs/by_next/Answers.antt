-- `keys::by_next` meets its contract. Assumes nothing.
use mathlib.Core.Path.{refl}
use Rattle.keys.proofs.by_next.Goals as goal

pub returns : goal.returns
returns c = rw (c.by_number.ensures, c.end_of.ensures, c.end_of-2.ensures) refl
