-- `mode_text::text_of` meets its contract: the digits are those of `six_digits`. Assumes nothing.
use mathlib.Core.Path.{sym, ◌∙◌}
use Rattle.mode_text.proofs.Laws.{text-zero, text-made}
use Rattle.mode_text.proofs.text_of.Goals as goal

pub returns-then-m-eq0 : goal.returns-then-m-eq0
returns-then-m-eq0 c = sym (text-zero _ c.if-m-eq0.true)

pub returns : goal.returns
returns c =
    c.trimmed.ensures
    ∙ text-made _ _ _ _ _ _ _ c.if-m-eq0.false c.digit.ensures c.digit-2.ensures c.digit-3.ensures
    c.digit-4.ensures c.digit-5.ensures c.digit-6.ensures
