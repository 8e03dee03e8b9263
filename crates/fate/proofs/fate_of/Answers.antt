use mathlib.Core.Path.{sym, ◌∙◌}
use Rattle.fate.proofs.Laws.{fate_name, fate_mode, fate_before, fate_kept}
use Rattle.fate.proofs.fate_of.Goals as goal

pub returns-then-name_number-ne-DONE : goal.returns-then-name_number-ne-DONE
returns-then-name_number-ne-DONE c = sym (fate_name _ _ _ _ (λ e. c.if-name_number-ne-DONE.true (c.name_number.ensures ∙ e)))

pub returns-then-before : goal.returns-then-before
returns-then-before c =
    let name-number = c.name_number in
    let if1 = c.if-name_number-ne-DONE in
    let stays-mode = c.stays_mode in
    let if2 = c.if-stays_mode in
    let if3 = c.if-before in
    sym (fate_before _ _ _ _ (sym name-number.ensures ∙ if1.false) (sym stays-mode.ensures ∙ if2.true) if3.true)

pub returns-then-stays_mode : goal.returns-then-stays_mode
returns-then-stays_mode c =
    let name-number = c.name_number in
    let if1 = c.if-name_number-ne-DONE in
    let stays-mode = c.stays_mode in
    let if2 = c.if-stays_mode in
    let if3 = c.if-before in
    let is-own = c.is_own in
    is-own.ensures ∙ sym (fate_kept _ _ _ _ (sym name-number.ensures ∙ if1.false) (sym stays-mode.ensures ∙ if2.true) if3.false)

pub returns : goal.returns
returns c =
    let name-number = c.name_number in
    let if1 = c.if-name_number-ne-DONE in
    let stays-mode = c.stays_mode in
    let if2 = c.if-stays_mode in
    sym (fate_mode _ _ _ _ (sym name-number.ensures ∙ if1.false) (sym stays-mode.ensures ∙ if2.false))
