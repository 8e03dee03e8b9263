-- `words::id_length` meets its contract. Assumes nothing.
use mathlib.Core.Path.{sym, ◌∙◌}
use Rattle.words.proofs.Laws.{ids_long, ids_short}
use Rattle.words.proofs.id_length.Goals as goal

pub returns-then-is_word : goal.returns-then-is_word
returns-then-is_word c =
    let args = c.args in
    ids_long args.s.now _ (sym c.is_word.ensures ∙ c.if-is_word.true) c.word_at-word.ensures

pub returns : goal.returns
returns c =
    let args = c.args in
    ids_short args.s.now (sym c.is_word.ensures ∙ c.if-is_word.false)
