-- `actor::is_addressed` meets its contract. Assumes nothing.
use Rattle.std.proofs.Common.{arith}
use Rattle.ground.proofs.Laws.{count-le}
use Rattle.actor.proofs.is_addressed.Goals as goal

pub overflow_sub-a : goal.overflow_sub-a
overflow_sub-a c = omega (arith, c.count_to-n.ensures, count-le 62 c.args.a.now)
