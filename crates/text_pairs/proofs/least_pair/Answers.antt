-- `text_pairs::least_pair` meets its contract. Assumes nothing.
use mathlib.Core.Path.{refl, sym, ◌∙◌}
use Rattle.keys.specs.Key.{key_at, below_by}
use Rattle.text_repeats.specs.Least.{same_record}
use Rattle.text_pairs.proofs.Laws.{pair-on, pair_end}
use Rattle.text_pairs.proofs.least_pair.Goals as goal

pub loop-j-init : goal.loop-j-init
loop-j-init c = refl

pub pair_here-least-requires : goal.pair_here-least-requires
pair_here-least-requires c = record { ascends = c.requires; j_in_bounds = c.loop-j-test.true }

pub loop-j-preserved : goal.loop-j-preserved
loop-j-preserved c =
    let args = c.args in
    let loop = c.loop-j in
    let loop-test = c.loop-j-test in
    let pair-here = c.pair_here-least in
    loop.invariant ∙ pair-on (below_by (key_at args.text.now 9 0)) (same_record args.text.now) args.list.now _ _ loop-test.true pair-here.ensures

pub returns : goal.returns
returns c =
    let args = c.args in
    let loop = c.loop-j in
    let loop-test = c.loop-j-test in
    sym (loop.invariant ∙ pair_end (below_by (key_at args.text.now 9 0)) (same_record args.text.now) args.list.now _ _ loop-test.false)
