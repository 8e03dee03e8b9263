-- `scan::same_bytes` meets its contract. Assumes nothing.
use Prim.Native.Nat.{ℕ}
use mathlib.Core.Path.{sym, ap, ◌∙◌}
use native.Mathlib.Omega.{arith}
use lib.Dec.{eqb}
use lib.ListN.{length}
use borrow.Author.Tests.{ne_eqb}
use Rattle.ground.proofs.Laws.{same_length, same-common}
use Rattle.scan.proofs.same_bytes.Goals as goal

pub returns-then-a-b : goal.returns-then-a-b
returns-then-a-b c =
    let args = c.args in
    ap (λ (n : ℕ). eqb n (length args.a.now)) c.common_start.ensures ∙ same-common args.a.now args.b.now (omega arith)

pub returns-else-a-b : goal.returns-else-a-b
returns-else-a-b c =
    let args = c.args in
    ne_eqb (length args.a.now) (length args.b.now) c.if-a-b.false ∙ sym (same_length args.a.now args.b.now c.if-a-b.false)
