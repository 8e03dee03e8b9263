-- `text_repeats::same_record` meets its contract. Assumes nothing.
use mathlib.Core.Path.{◌∙◌}
use Rattle.std.proofs.lemmas.Bool.{ne_eqb}
use Rattle.text_repeats.proofs.Laws.{record_other, record_names}
use Rattle.text_repeats.proofs.same_record.Goals as goal

pub returns-then-x-y : goal.returns-then-x-y
returns-then-x-y c =
    let args = c.args in
    record_names args.text.now args.x args.y c.if-x-y.true c.name_at.ensures c.name_at-then-x-y.ensures c.same_bytes.ensures

pub returns-else-x-y : goal.returns-else-x-y
returns-else-x-y c = ne_eqb _ _ c.if-x-y.false ∙ record_other c.args.text.now c.args.x c.args.y c.if-x-y.false
