-- `piece_judge::level_over` meets its contract. Assumes nothing.
use mathlib.Core.Path.{◌∙◌}
use Rattle.arriving.proofs.Laws.{level_folder, level_file, level_new, level_none}
use Rattle.piece_judge.proofs.level_over.Goals as goal

pub returns-then-l : goal.returns-then-l
returns-then-l c = let x = c.args in level_folder x.held.now x.last x.l c.if-l-last.true _ c.byte_at.ensures c.if-l.true

pub returns-else-l : goal.returns-else-l
returns-else-l c = let x = c.args in c.if-l.false ∙ level_file x.held.now x.last x.l c.if-l-last.true c.if-l.false

pub returns-then-l-2 : goal.returns-then-l-2
returns-then-l-2 c = let x = c.args in level_new x.held.now x.last x.l c.if-l-last.false c.if-l-2.true

pub returns-else-l-2 : goal.returns-else-l-2
returns-else-l-2 c = let x = c.args in c.if-l-2.false ∙ level_none x.held.now x.last x.l c.if-l-last.false c.if-l-2.false
