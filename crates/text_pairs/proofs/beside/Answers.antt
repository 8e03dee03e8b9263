-- `text_pairs::beside` meets its contract. Assumes nothing.
use mathlib.Core.Path.{sym, ◌∙◌}
use Rattle.text_repeats.specs.Least.{same_record}
use Rattle.text_pairs.proofs.Laws.{beside_before, beside_end, beside_some}
use Rattle.text_pairs.proofs.beside.Goals as goal

pub returns-then-same_before : goal.returns-then-same_before
returns-then-same_before c =
    let args = c.args in
    let same-before = c.same_before in
    let if1 = c.if-same_before in
    beside_before (same_record args.text.now) args.list.now args.k args.x (sym same-before.ensures ∙ if1.true)

pub returns-then-list-k : goal.returns-then-list-k
returns-then-list-k c =
    let args = c.args in
    let same-before = c.same_before in
    let if1 = c.if-same_before in
    let if2 = c.if-list-k in
    beside_end (same_record args.text.now) args.list.now args.k args.x (sym same-before.ensures ∙ if1.false) if2.true

pub returns : goal.returns
returns c =
    let args = c.args in
    let same-before = c.same_before in
    let if1 = c.if-same_before in
    let if2 = c.if-list-k in
    let if-same = c.if_same in
    beside_some (same_record args.text.now) args.list.now args.k args.x (sym same-before.ensures ∙ if1.false) if2.false if-same.ensures
