-- `tree_export::walk` meets its contract. Assumes nothing.
use mathlib.Core.Path.{◌≡◌}
use lib.ListN.{length}
use Rattle.tree_export.proofs.Walks.{Walking}
use Rattle.tree_export.proofs.walk.Given as goal

abbrev pub invariant-loop : goal.invariant-loop
invariant-loop l = Walking l.h l.s l.initial.out l.c.at l.counter l.out l.p × (length l.out ≡ length l.initial.out)
