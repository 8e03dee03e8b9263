-- `strict::entry_number` meets its contract. Assumes nothing.
use mathlib.Core.Path.{sym, ◌∙◌}
use Rattle.entry.specs.Record.{name_of}
use Rattle.strict.specs.Strict.{text_of}
use Rattle.strict.proofs.Judging.{entry-text, entry_named}
use Rattle.strict.proofs.entry_number.Goals as goal

pub returns-then-mode_permitted : goal.returns-then-mode_permitted
unfolding text_of name_of
returns-then-mode_permitted c =
    let args = c.args in
    let mode-permitted = c.mode_permitted in
    let if1 = c.if-mode_permitted in
    entry_named args.rules args.s.now args.at args.e (sym mode-permitted.ensures ∙ if1.true) c.requires.e_value c.name_number.ensures

pub returns : goal.returns
unfolding text_of
returns c =
    let args = c.args in
    let mode-permitted = c.mode_permitted in
    sym (entry-text args.rules args.s.now args.at args.e (sym mode-permitted.ensures ∙ c.if-mode_permitted.false))
