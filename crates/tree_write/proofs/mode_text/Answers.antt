-- `tree_write::mode_text` meets its contract. Assumes nothing.
use Rattle.mode_text.proofs.Laws.{mode_le, text-is}
use native.Mathlib.Omega.{arith}
use Rattle.tree_write.proofs.mode_text.Goals as goal

pub returns : goal.returns
returns c = let t = text-is _ _ c.as_bytes.ensures in (t.0, omega (arith, mode_le c.args.mode), t.1, t.2)
