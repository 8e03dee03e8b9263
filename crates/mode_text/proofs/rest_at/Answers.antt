-- `mode_text::rest_at` meets its contract: each way out is a law of `rest_at`. Assumes nothing.
use mathlib.Core.Path.{sym}
use Rattle.mode_text.proofs.Laws.{rest_more, rest_end}
use Rattle.mode_text.proofs.rest_at.Goals as goal

pub returns-then-n-len : goal.returns-then-n-len
returns-then-n-len c = sym (rest_more _ _ c.if-n-len.true)

pub returns-else-n-len : goal.returns-else-n-len
returns-else-n-len c = sym (rest_end _ _ c.if-n-len.false)
