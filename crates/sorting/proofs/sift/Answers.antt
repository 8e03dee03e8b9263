-- `sorting::sift` meets its contract. Assumes nothing.
use Rattle.keys.specs.Key.{key_at, below_by}
use Rattle.keys.proofs.Keys.{key_strict}
use Rattle.sorting.proofs.Heaps.{sift_start, sift_turn, sift_stop, sift_end}
use Rattle.std.proofs.lemmas.List.Edits.{swap_is}
use native.Mathlib.Omega.{arith}
use mathlib.Core.Path.{sym, ◌∙◌}
use Rattle.sorting.proofs.sift.Goals as goal

pub loop-i-init : goal.loop-i-init
loop-i-init c =
    let args = c.args in
    let key = key_at args.text.now args.mark args.width in
    sift_start (below_by key) (key_strict key) args.list.now args.from args.n c.requires.heap

pub loop-i-preserved : goal.loop-i-preserved
loop-i-preserved c =
    let args = c.args in
    let loop = c.loop-i in
    let larger = c.larger-c in
    let key = key_at args.text.now args.mark args.width in
    let turned = sift_turn (below_by key) (key_strict key) args.list.now loop.list args.from args.n loop.i _ larger.ensures
    (sym c.below.ensures ∙ c.if-below.true) c.requires.n_in_bounds loop.invariant in
    rw (c.swap.ensures.after, sym (swap_is loop.list loop.i larger.result 0 (omega (arith, loop.invariant.moved.size)) (omega (arith, larger.ensures.within, loop.invariant.moved.size)))) turned

pub returns-else-below-clause-heap_2 : goal.returns-else-below-clause-heap_2
returns-else-below-clause-heap_2 c =
    let args = c.args in
    let loop = c.loop-i in
    let key = key_at args.text.now args.mark args.width in
    sift_stop (below_by key) (key_strict key) args.list.now loop.list args.from args.n loop.i _ c.larger-c.ensures
    (sym c.below.ensures ∙ c.if-below.false) loop.invariant

pub returns-clause-heap_2 : goal.returns-clause-heap_2
returns-clause-heap_2 c =
    let args = c.args in
    let loop = c.loop-i in
    let key = key_at args.text.now args.mark args.width in
    sift_end (below_by key) (key_strict key) args.list.now loop.list args.from args.n loop.i c.loop-i-test.false loop.invariant
