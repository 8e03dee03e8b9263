-- `words::rule_set` meets its contract. Assumes nothing.
use mathlib.Core.Path.{sym, ◌∙◌}
use Rattle.words.proofs.Laws.{set-one, set-two, set-none}
use Rattle.words.proofs.rule_set.Goals as goal

pub returns-then-is_word : goal.returns-then-is_word
returns-then-is_word c =
    let args = c.args in
    sym (set-one args.s.now args.at (sym c.is_word.ensures ∙ c.if-is_word.true))

pub returns-then-is_word-2 : goal.returns-then-is_word-2
returns-then-is_word-2 c =
    let args = c.args in
    sym (set-two args.s.now args.at (sym c.is_word.ensures ∙ c.if-is_word.false) (sym c.is_word-2.ensures ∙ c.if-is_word-2.true))

pub returns : goal.returns
returns c =
    let args = c.args in
    sym (set-none args.s.now args.at (sym c.is_word.ensures ∙ c.if-is_word.false) (sym c.is_word-2.ensures ∙ c.if-is_word-2.false))
