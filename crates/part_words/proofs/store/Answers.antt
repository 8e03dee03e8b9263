-- `part_words::store` meets its contract. Assumes nothing.
use mathlib.Core.Path.{refl}
use Rattle.part_words.proofs.store.Goals as goal

pub returns : goal.returns
returns c = record { many = refl; stores = c.put.ensures }
