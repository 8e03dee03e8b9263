-- `listing_text::list_any` meets its contract. Assumes nothing.
use mathlib.Core.Path.{refl}
use Rattle.listing_text.proofs.Room.{text-long, listed-long, told-both}
use Rattle.listing_text.proofs.list_any.Goals as goal

pub returns : goal.returns
returns c =
    let r = (told-both c.args.h c.args.object.now (listed-long c.args.h c.args.object.now c.if-object-le-LONGEST.false) refl
    (text-long c.args.h c.args.object.now c.if-object-le-LONGEST.false) c.add_refusal-len.ensures) in
    record { listed = r.0; out = r.1 }
