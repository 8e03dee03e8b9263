-- `sorting::settle` meets its contract. Assumes nothing.
use Prim.Native.Nat.{◌-◌}
use Rattle.std.proofs.lemmas.List.Edits.{swap_is}
use mathlib.Core.Path.{sym, ◌∙◌}
use Rattle.keys.specs.Key.{key_at, below_by}
use Rattle.keys.proofs.Keys.{key_strict}
use Rattle.sorting.proofs.Heaps.{settle-start, settle-rest, settle-again, settle_end}
use native.Mathlib.Omega.{arith}
use Rattle.sorting.proofs.settle.Goals as goal

pub loop-m-init : goal.loop-m-init
loop-m-init c =
    let args = c.args in
    let key = key_at args.text.now args.mark args.width in
    (settle-start (below_by key) (key_strict key) args.list.now c.requires, omega arith)

pub sift-requires-clause-heap : goal.sift-requires-clause-heap
sift-requires-clause-heap c =
    let loop = c.loop-m in
    let key = key_at c.args.text.now c.args.mark c.args.width in
    let size = loop.invariant.0.size in
    rw (c.swap.ensures.after, sym (swap_is loop.list 0 (loop.m - 1) 0 (omega (arith, size)) (omega (arith, size))))
    (settle-rest (below_by key) (key_strict key) c.args.list.now loop.list loop.m loop.invariant.0 c.loop-m-test.true (omega (arith, size)))

pub loop-m-preserved : goal.loop-m-preserved
loop-m-preserved c =
    let loop = c.loop-m in
    let key = key_at c.args.text.now c.args.mark c.args.width in
    let size = loop.invariant.0.size in
    let same = c.swap.ensures.after ∙ sym (swap_is loop.list 0 (loop.m - 1) 0 (omega (arith, size)) (omega (arith, size))) in
    let moved = rw same at c.sift.ensures.moved in (
      settle-again (below_by key) (key_strict key) c.args.list.now loop.list loop.m loop.invariant.0 c.loop-m-test.true (omega (arith, size)) _ moved c.sift.ensures.heap_2,
      omega arith,
    )

pub returns : goal.returns
returns c =
    let args = c.args in
    let loop = c.loop-m in
    let key = key_at args.text.now args.mark args.width in
    settle_end (below_by key) (key_strict key) args.list.now loop.list loop.m c.loop-m-test.false loop.invariant.0
