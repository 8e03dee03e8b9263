-- `entry::Cursor::step` meets its contract. Assumes nothing.
use mathlib.Core.Path.{sym, ap, ◌∙◌}
use Rattle.entry.specs.Decode.{step_over}
use Rattle.entry.proofs.Laws.{step-shut, step_end, step-inside}
use Rattle.entry.proofs.Cursor.step.Goals as goal

pub returns-then-end-self : goal.returns-then-end-self
returns-then-end-self c =
    let bounds = c.bounds in
    let enum_told = c.in-Ok in
    let if1 = c.if-end-self in
    let no-entry2 = c.no_entry-then-end-self in
    no-entry2.ensures ∙ sym (step_end _ _ _ (sym bounds.ensures ∙ enum_told.is) if1.true)

pub returns-in-Err : goal.returns-in-Err
returns-in-Err c = c.no_entry.ensures ∙ sym (step-shut _ _ _ _ (sym c.bounds.ensures ∙ c.in-Err.is))

pub returns-else-end-self : goal.returns-else-end-self
returns-else-end-self c =
    let bounds = c.bounds in
    let enum_told = c.in-Ok in
    let if1 = c.if-end-self in
    let decode = c.decode in
    let stepped = c.stepped in
    stepped.ensures ∙ ap (step_over _) decode.ensures ∙ sym (step-inside _ _ _ (sym bounds.ensures ∙ enum_told.is) if1.false)
