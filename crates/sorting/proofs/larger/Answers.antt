-- `sorting::larger` meets its contract. Assumes nothing.
use Rattle.keys.specs.Key.{key_at, below_by}
use Rattle.keys.proofs.Keys.{key_strict}
use Rattle.sorting.proofs.Heaps.{larger_only, larger_right, larger_left}
use mathlib.Core.Path.{sym, ◌∙◌}
use Rattle.sorting.proofs.larger.Goals as goal

pub returns-then-n-d : goal.returns-then-n-d
returns-then-n-d c =
    let args = c.args in
    let key = key_at args.text.now args.mark args.width in
    larger_only (below_by key) (key_strict key) args.list.now args.i args.n c.requires.i_bound c.if-n-d.true

pub returns-then-below : goal.returns-then-below
returns-then-below c =
    let args = c.args in
    let if1 = c.if-n-d in
    let below = c.below in
    let if2 = c.if-below in
    let key = key_at args.text.now args.mark args.width in
    larger_right (below_by key) (key_strict key) args.list.now args.i args.n if1.false (sym below.ensures ∙ if2.true)

pub returns : goal.returns
returns c =
    let args = c.args in
    let if1 = c.if-n-d in
    let below = c.below in
    let if2 = c.if-below in
    let key = key_at args.text.now args.mark args.width in
    larger_left (below_by key) (key_strict key) args.list.now args.i args.n if1.false (sym below.ensures ∙ if2.false)
