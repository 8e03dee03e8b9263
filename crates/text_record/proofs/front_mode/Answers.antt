-- `text_record::front_mode` meets its contract. Assumes nothing.
use mathlib.Core.Path.{sym, ◌∙◌}
use Rattle.text_record.proofs.Laws.{mode-plain, mode-group, mode_other}
use Rattle.text_record.proofs.front_mode.Goals as goal

pub returns-then-rules-ne1 : goal.returns-then-rules-ne1
returns-then-rules-ne1 c = mode-plain c.args.rules c.args.b.now c.if-rules-ne1.true c.written_front.ensures

pub returns-then-begins_with : goal.returns-then-begins_with
returns-then-begins_with c =
    let args = c.args in
    let if1 = c.if-rules-ne1 in
    let begins-with = c.begins_with in
    let if2 = c.if-begins_with in
    mode-group args.rules args.b.now if1.false (sym begins-with.ensures ∙ if2.true)

pub returns : goal.returns
returns c =
    let args = c.args in
    let if1 = c.if-rules-ne1 in
    let begins-with = c.begins_with in
    let if2 = c.if-begins_with in
    let written-front2 = c.written_front-2 in
    mode_other args.rules args.b.now if1.false (sym begins-with.ensures ∙ if2.false) written-front2.ensures
