-- `text_pairs::same_at` meets its contract. Assumes nothing.
use mathlib.Core.Path.{◌∙◌}
use borrow.Author.Tests.{le-ltb}
use Rattle.text_pairs.proofs.Laws.{same_out, same_in}
use Rattle.text_pairs.proofs.same_at.Goals as goal

pub returns-then-i-list : goal.returns-then-i-list
returns-then-i-list c = same_in _ _ _ _ c.if-i-list.true c.same_record.ensures

pub returns-else-i-list : goal.returns-else-i-list
returns-else-i-list c = le-ltb _ _ c.if-i-list.false ∙ same_out _ _ _ _ c.if-i-list.false
