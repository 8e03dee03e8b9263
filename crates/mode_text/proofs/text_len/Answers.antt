-- `mode_text::text_len` meets its contract. Assumes nothing.
use mathlib.Core.Path.{sym, ◌∙◌}
use Rattle.mode_text.proofs.Laws.{text_six, text-count}
use Rattle.mode_text.proofs.text_len.Goals as goal

pub returns-then-has_six : goal.returns-then-has_six
returns-then-has_six c = sym (text_six _ (sym c.has_six.ensures ∙ c.if-has_six.true))

pub returns-else-has_six : goal.returns-else-has_six
returns-else-has_six c = c.count_to.ensures ∙ sym (text-count _ (sym c.has_six.ensures ∙ c.if-has_six.false))
