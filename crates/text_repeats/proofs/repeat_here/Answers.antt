-- `text_repeats::repeat_here` meets its contract. Assumes nothing.
use mathlib.Core.Path.{sym, ◌∙◌}
use Rattle.text_repeats.specs.Least.{same_record}
use Rattle.text_repeats.proofs.Laws.{least_here, least_not}
use Rattle.text_repeats.proofs.repeat_here.Goals as goal

pub returns-then-same_record : goal.returns-then-same_record
returns-then-same_record c =
    let args = c.args in
    let same-record = c.same_record in
    let if1 = c.if-same_record in
    let shorter = c.shorter in
    least_here (same_record args.text.now) args.x args.y args.least (sym same-record.ensures ∙ if1.true) shorter.ensures

pub returns : goal.returns
returns c =
    let args = c.args in
    let same-record = c.same_record in
    let if1 = c.if-same_record in
    least_not (same_record args.text.now) args.x args.y args.least (sym same-record.ensures ∙ if1.false)
