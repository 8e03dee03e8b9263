-- `rules::mode_permitted` meets its contract. Assumes nothing.
use mathlib.Core.Path.{sym, ◌∙◌}
use Rattle.mode_table.specs.Table.{written_mode}
use Rattle.rules.proofs.Laws.{mode-found, mode-none}
use Rattle.rules.proofs.mode_permitted.Goals as goal

pub returns-in-None : goal.returns-in-None
unfolding written_mode
returns-in-None c =
    let written-mode = c.written_mode in
    let args = c.args in
    c.is_group.ensures ∙ sym (mode-none args.rules args.text.now (sym written-mode.ensures ∙ c.in-None.is))

pub returns-in-Some : goal.returns-in-Some
unfolding written_mode
returns-in-Some c =
    let written-mode = c.written_mode in
    let args = c.args in
    sym (mode-found args.rules args.text.now _ (sym written-mode.ensures ∙ c.in-Some.is))
