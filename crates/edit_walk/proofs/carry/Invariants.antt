-- `edit_walk::carry` meets its contract. Assumes nothing.
use Rattle.edit_walk.specs.Walk.{new_entry}
use Rattle.edit_walk.proofs.Walks.{Walking}
use Rattle.edit_walk.proofs.carry.Given as goal

abbrev pub invariant-loop-left : goal.invariant-loop-left
invariant-loop-left l =
    Walking l.h l.count l.s (new_entry l.mode l.name l.id) l.done l.initial.out l.out l.left l.at l.used l.kept l.placed

abbrev pub decreases-loop-left : goal.decreases-loop-left
decreases-loop-left l =
    l.left
