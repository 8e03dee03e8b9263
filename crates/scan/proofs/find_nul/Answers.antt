-- `scan::find_nul` meets its contract. Assumes nothing.
use Prim.Native.Nat.{◌+◌}
use mathlib.Core.Path.{sym, ◌∙◌}
use native.Mathlib.Omega.{arith}
use Rattle.ground.proofs.Laws.{place_end}
use Rattle.scan.proofs.Laws.{place-clear, place-met}
use Rattle.scan.proofs.find_nul.Goals as goal

pub returns-then-s-from : goal.returns-then-s-from
returns-then-s-from c = sym (place_end 0 c.args.s.now c.args.from (omega arith))

pub first_of-requires : goal.first_of-requires
first_of-requires c =
    let i = c.args.from in
    record { in_bounds = omega arith; found = place-met 0 c.args.s.now i _ (i + 16) (omega arith) (omega arith) (sym c.if-not-lacks.ensures) }

pub find_far-requires : goal.find_far-requires
find_far-requires c = omega arith

pub returns : goal.returns
returns c =
    let i = c.args.from in
    c.find_far.ensures ∙ sym (place-clear 0 c.args.s.now i _ (i + 16) (omega arith) (omega arith) (sym c.if-not-lacks.ensures))
