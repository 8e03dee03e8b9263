-- `asking::set_asked` meets its contract. Assumes nothing.
use mathlib.Core.Path.{sym, ◌∙◌}
use Rattle.asking.proofs.Laws.{none-asked, one-asked, more-asked, next-asked}
use Rattle.asking.proofs.set_asked.Goals as goal

pub returns-then-is_word : goal.returns-then-is_word
returns-then-is_word c =
    let args = c.args in
    none-asked args.s.now args.h args.first _ (sym c.is_word.ensures ∙ c.if-is_word.true)
    ∙ next-asked args.s.now args.h args.first _ c.word_at-word.ensures

pub returns-then-is_word-2 : goal.returns-then-is_word-2
returns-then-is_word-2 c =
    let args = c.args in
    one-asked args.s.now args.h args.first _ _ c.word_at-blank.ensures
    (sym c.is_word.ensures ∙ c.if-is_word.false) _ (sym c.is_word-2.ensures ∙ c.if-is_word-2.true) c.rule_set-rules.ensures
    ∙ next-asked args.s.now args.h args.first _ c.word_at-word.ensures

pub returns : goal.returns
returns c =
    let args = c.args in
    more-asked args.s.now args.h args.first _ _ c.word_at-blank.ensures
    (sym c.is_word.ensures ∙ c.if-is_word.false) (sym c.is_word-2.ensures ∙ c.if-is_word-2.false)
    ∙ next-asked args.s.now args.h args.first _ c.word_at-word.ensures
