-- `listing_text::add_head` meets its contract. Assumes nothing.
use native.Mathlib.Omega.{arith}
use Rattle.listing_text.specs.Text.{head}
use Rattle.listing_text.proofs.Laws.{added_then}
use Rattle.listing_text.proofs.add_head.Goals as goal

pub returns : goal.returns
unfolding head
returns c =
    let n = c.add_number-q.ensures in (
      added_then (added_then c.add-p.ensures n.0) c.add.ensures,
      omega
          (arith, n.1, c.add-p.ensures.place, c.add.ensures.place),
    )
