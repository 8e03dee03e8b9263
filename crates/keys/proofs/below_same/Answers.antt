-- `keys::below_same` meets its contract. Assumes nothing.
use mathlib.Core.Path.{refl}
use native.Mathlib.Omega.{arith}
use borrow.Author.Tests.{lt-ltb, ne_eqb}
use Rattle.order.proofs.Laws.{by_lt, by_gt, by-eq}
use Rattle.keys.proofs.below_same.Goals as goal

pub returns-then-a-b : goal.returns-then-a-b
returns-then-a-b c = rw (by_lt c.if-a-b.true) (lt-ltb c.args.a c.args.b c.if-a-b.true)

pub returns-then-a-b-2 : goal.returns-then-a-b-2
returns-then-a-b-2 c = rw (by-eq c.if-a-b-2.true) refl

pub returns-else-a-b-2 : goal.returns-else-a-b-2
returns-else-a-b-2 c = rw (by_gt {x = c.args.a} {y = c.args.b} (omega (arith, c.if-a-b.false, c.if-a-b-2.false))) (ne_eqb c.args.a c.args.b c.if-a-b-2.false)
