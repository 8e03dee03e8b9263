-- `listing_text::list_short` meets its contract. Assumes nothing.
use Prim.Native.Nat.{ℕ}
use lib.ListN.{length-replicate}
use Rattle.listing_text.proofs.list_short.Goals as goal

pub list_into-requires : goal.list_into-requires
list_into-requires c = let p = c.requires in (p.0, p.1, length-replicate {A = ℕ} 14890 0)
