-- `free_of::is_free_near` meets its contract. Assumes nothing.
use Prim.Native.Nat.{◌-◌}
use native.Mathlib.Omega.{arith}
use lib.ListN.{length}
use Rattle.free_of.proofs.Laws.{free_both}
use Rattle.free_of.proofs.is_free_near.Goals as goal

pub returns : goal.returns
returns c =
    let s = c.args.s.now in
    let k = c.args.k in
    rw (c.lacks.ensures, c.lacks-2.ensures) (free_both c.args.x s k (length s - k) _ (omega arith) (omega arith) (omega arith))
