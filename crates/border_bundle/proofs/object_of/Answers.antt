-- `border_bundle::object_of` meets its contract. Assumes nothing.
use mathlib.Core.Path.{sym, ◌∙◌}
use Rattle.border_bundle.proofs.Laws.{asked-shut, asked-absent, asked_at}
use Rattle.border_bundle.proofs.object_of.Goals as goal

pub returns-in-Err : goal.returns-in-Err
returns-in-Err c = c.no_object.ensures ∙ sym (asked-shut _ _ _ _ c.longer.ensures c.sizes.ensures _ c.in-Err.is)

pub returns-in-None : goal.returns-in-None
returns-in-None c =
    c.no_object-in-None.ensures
    ∙ sym (asked-absent _ _ _ _ c.longer.ensures c.sizes.ensures c.in-Ok.is _ c.find_object.ensures c.in-None.is)

pub returns-in-Some : goal.returns-in-Some
returns-in-Some c =
    sym (asked_at _ _ _ _ c.longer.ensures c.sizes.ensures c.in-Ok.is _ c.find_object.ensures _ c.in-Some.is)
