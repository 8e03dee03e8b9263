-- `keys::end_of` meets its contract. Assumes nothing.
use mathlib.Core.Path.{refl}
use borrow.Author.Tests.{eq-eqb, ne_eqb}
use Rattle.keys.specs.Key.{ended}
use Rattle.keys.proofs.end_of.Goals as goal

pub returns-in-0-true : goal.returns-in-0-true
unfolding ended
returns-in-0-true c = rw (eq-eqb c.args.p 0 c.in-0-true.is-0, c.in-0-true.is-1) refl

pub returns-in_default : goal.returns-in_default
unfolding ended
returns-in_default c = rw (eq-eqb c.args.p 0 c.in_default.is-0, c.in_default.is-1) c.in_default.is-0

pub returns-in_default-2 : goal.returns-in_default-2
unfolding ended
returns-in_default-2 c = rw (ne_eqb c.args.p 0 c.in_default.is-0.1) refl
