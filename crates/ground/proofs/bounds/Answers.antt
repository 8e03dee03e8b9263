-- `ground::bounds` meets its contract. Assumes nothing.
use mathlib.Core.Path.{sym, ◌∙◌}
use mathlib.Core.Logic.{inl, inr}
use Rattle.ground.proofs.Laws.{gate_id, gate_other}
use Rattle.ground.proofs.bounds.Goals as goal
use Rattle.ground.proofs.bounds.Goals.{then-h-eq20-via-then-h-eq20, then-h-eq20-via-else-h-eq20+then-h-eq32}

pub returns-then-h-eq20 : goal.returns-then-h-eq20
returns-then-h-eq20 c =
    c.sizes.ensures
    ∙ sym (gate_id c.args.h c.args.bytes c.args.records (elim c.then-h-eq20.branch [
      | then-h-eq20-via-then-h-eq20 w ↦ inl w.if-h-eq20.true
      | then-h-eq20-via-else-h-eq20+then-h-eq32 w ↦ inr w.if-h-eq32.true
    ]))

pub returns : goal.returns
returns c = sym (gate_other _ _ _ c.if-h-eq20.false c.if-h-eq32.false)
