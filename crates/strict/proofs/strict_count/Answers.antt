-- `strict::strict_count` meets its contract. Assumes nothing.
use mathlib.Core.Path.{sym, ◌∙◌}
use Rattle.strict.proofs.Laws.{count-over, count-within}
use Rattle.strict.proofs.strict_count.Goals as goal

pub returns-then-bytes-gt-MOST_BYTES : goal.returns-then-bytes-gt-MOST_BYTES
returns-then-bytes-gt-MOST_BYTES c = c.stopped.ensures ∙ sym (count-over _ _ _ c.if-bytes-gt-MOST_BYTES.true)

pub returns : goal.returns
returns c = c.count_strict.ensures ∙ sym (count-within _ _ _ c.if-bytes-gt-MOST_BYTES.false)
