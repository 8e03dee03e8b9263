-- `text_pairs::judge_list` meets its contract. Assumes nothing.
use Rattle.keys.specs.Key.{key_at, below_by}
use Rattle.keys.proofs.Keys.{key_strict}
use Rattle.sorting.proofs.Sorted.{sort-ascends}
use Rattle.text_pairs.proofs.Laws.{judged_order, judged_pair}
use Rattle.text_pairs.proofs.judge_list.Goals as goal

pub returns-then-order-lt-NONE : goal.returns-then-order-lt-NONE
returns-then-order-lt-NONE c =
    let args = c.args in
    let sort = c.sort in
    let least-repeat = c.least_repeat-order in
    let if1 = c.if-order-lt-NONE in
    let repeat-verdict = c.repeat_verdict in
    record { verdict = judged_order args.text.now _ _ sort.ensures least-repeat.ensures if1.true _ repeat-verdict.ensures; list = sort.ensures }

pub least_pair-name-requires : goal.least_pair-name-requires
least_pair-name-requires c =
    let args = c.args in
    let sort = c.sort in
    rw sort.ensures (sort-ascends (below_by (key_at args.text.now 9 0)) (key_strict _) args.list.now)

pub returns : goal.returns
returns c =
    let args = c.args in
    let sort = c.sort in
    let least-repeat = c.least_repeat-order in
    let least-pair = c.least_pair-name in
    let repeat-verdict2 = c.repeat_verdict-2 in
    record { verdict = judged_pair args.text.now _ _ sort.ensures least-repeat.ensures least-pair.ensures repeat-verdict2.ensures; list = sort.ensures }
