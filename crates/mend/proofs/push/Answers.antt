-- `mend::push` meets its contract. Assumes nothing.
use mathlib.Core.Path.{◌∙◌}
use Rattle.mend_kept.proofs.Walk.{push_stored, push_none}
use Rattle.mend.proofs.push.Goals as goal

pub returns-then-taken : goal.returns-then-taken
returns-then-taken c =
    let r = push_stored _ _ _ _ c.if-taken.true in
    record { value = r.0; list_after = c.put_at.ensures ∙ r.1 }

pub returns : goal.returns
returns c =
    let r = push_none _ _ _ _ c.if-taken.false in
    record { value = r.0; list_after = r.1 }
