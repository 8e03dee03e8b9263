-- `entry::short_part` meets its contract. Assumes nothing.
use mathlib.Core.Path.{sym}
use Rattle.entry.proofs.Laws.{short_none, short-some}
use Rattle.entry.proofs.short_part.Goals as goal

pub returns-then-left-eq0 : goal.returns-then-left-eq0
returns-then-left-eq0 c = sym (short_none c.if-left-eq0.true)

pub returns-else-left-eq0 : goal.returns-else-left-eq0
returns-else-left-eq0 c = sym (short-some c.if-left-eq0.false)
