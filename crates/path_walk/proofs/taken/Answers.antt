-- `path_walk::taken` meets its contract. Assumes nothing.
use native.Mathlib.Omega.{arith}
use mathlib.Core.Path.{sym, ◌∙◌}
use Rattle.path_walk.proofs.Laws.{taken_none, given_inside, taken-there}
use Rattle.path_walk.proofs.taken.Goals as goal

pub overflow_add-end : goal.overflow_add-end
overflow_add-end c =
    omega (
      arith,
      given_inside _ c.args.s.now _ _ _ c.in-Some.is _
          c.requires,
    )

pub slice_bounds-put-end-in-Some : goal.slice_bounds-put-end-in-Some
slice_bounds-put-end-in-Some c =
    omega (
      arith,
      given_inside _ c.args.s.now _ _ _ c.in-Some.is _
          c.requires,
    )

pub returns-in-None : goal.returns-in-None
returns-in-None c = c.missing.ensures ∙ sym (taken_none _ _ _ c.in-None.is)

pub returns-in-Some : goal.returns-in-Some
returns-in-Some c = sym (taken-there _ _ _ _ _ c.in-Some.is _ c.put.ensures)
