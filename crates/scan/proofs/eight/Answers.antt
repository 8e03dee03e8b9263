-- `scan::eight` meets its contract. Assumes nothing.
use native.Mathlib.Omega.{arith}
use Rattle.scan.proofs.Word.{word_of_eight}
use Rattle.scan.proofs.eight.Goals as goal

pub returns : goal.returns
returns c = rw c.from_le_bytes.ensures (word_of_eight c.args.s.now c.args.i c.requires (λ k. omega (arith, c.type_inv.s k)))
