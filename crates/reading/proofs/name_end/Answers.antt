-- `reading::name_end` meets its contract. Assumes nothing.
use mathlib.Core.Path.{sym}
use native.Mathlib.Omega.{arith}
use Rattle.reading.proofs.name_end.Goals as goal

pub overflow_cast-len : goal.overflow_cast-len
overflow_cast-len c = omega (arith, c.type_inv.lengths c.args.n)

pub overflow_add-result : goal.overflow_add-result
overflow_add-result c = omega (arith, c.type_inv.lengths c.args.n)

pub returns : goal.returns
returns c = sym (c.requires.1 c.if-len-eq0.false)
