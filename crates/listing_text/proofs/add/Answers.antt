-- `listing_text::add` meets its contract. Assumes nothing.
use mathlib.Core.Path.{refl}
use Rattle.listing_text.proofs.add.Goals as goal

pub returns : goal.returns
returns c = record { place = refl; stores = c.put.ensures }
