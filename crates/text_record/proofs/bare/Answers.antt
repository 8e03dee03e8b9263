-- `text_record::bare` meets its contract. Assumes nothing.
use Rattle.text_record.proofs.Laws.{bare_none, bare_zero, bare_other}
use Rattle.text_record.proofs.bare.Goals as goal

pub returns-then-t-eq0 : goal.returns-then-t-eq0
returns-then-t-eq0 c = bare_none c.args.t.now c.if-t-eq0.true

pub returns-then-t-eq48 : goal.returns-then-t-eq48
returns-then-t-eq48 c = bare_zero c.args.t.now c.if-t-eq48.true

pub returns : goal.returns
returns c = bare_other c.args.t.now c.if-t-eq48.false
