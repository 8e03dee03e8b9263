-- `keys::names` meets its contract. Assumes nothing.
use lib.ListN.{drop}
use Rattle.keys.proofs.Keys.{walk_more, walk_end, walk_off, cut_le}
use native.Mathlib.Omega.{arith}
use mathlib.Core.Path.{◌∙◌}
use lib.ListN.{length-drop}
use Rattle.keys.proofs.names.Goals as goal
use Rattle.keys.proofs.names.Goals.{then-p-eq0-via-then-p-eq0, then-p-eq0-via-else-p-eq0+then-p-q}

pub loop-width-init : goal.loop-width-init
loop-width-init c =
    let start = c.shared-i.ensures in
    record { shared = start.agree; left = start.left; right = start.right }

pub next_at-p-requires : goal.next_at-p-requires
next_at-p-requires c = record { from_in_bounds = c.requires.0; i_in_bounds = c.loop-width.invariant.left }

pub next_at-q-requires : goal.next_at-q-requires
next_at-q-requires c = record { from_in_bounds = c.requires.1; i_in_bounds = c.loop-width.invariant.right }

pub returns-then-p-eq0 : goal.returns-then-p-eq0
returns-then-p-eq0 c =
    let args = c.args in
    let loop = c.loop-width in
    let p = c.next_at-p.ensures in
    let q = c.next_at-q.ensures in
    c.by_next.ensures
    ∙ elim c.then-p-eq0.branch [
      | then-p-eq0-via-then-p-eq0 w ↦ walk_end _ _ loop.i loop.invariant _ _ p q args.atree args.btree w.if-p-eq0.true
      | then-p-eq0-via-else-p-eq0+then-p-q w ↦ walk_off _ _ loop.i loop.invariant _ _ p q args.atree args.btree w.if-p-q.true
    ]

pub overflow_add-i : goal.overflow_add-i
overflow_add-i c =
    let args = c.args in
    let good = c.well_formed in
    let loop = c.loop-width in
    let next-at = c.next_at-p in
    let next-at2 = c.next_at-q in
    let if1 = c.if-p-eq0 in
    let if2 = c.if-p-q in
    let w = walk_more _ _ loop.i loop.invariant _ _ next-at.ensures next-at2.ensures if1.false if2.false in
    omega (arith, w.left, cut_le args.width (drop args.a args.text.now), length-drop args.a args.text.now, good)

pub loop-width-smaller : goal.loop-width-smaller
loop-width-smaller c =
    let args = c.args in
    let loop = c.loop-width in
    let next-at = c.next_at-p in
    let next-at2 = c.next_at-q in
    let if1 = c.if-p-eq0 in
    let if2 = c.if-p-q in
    let w = walk_more _ _ loop.i loop.invariant _ _ next-at.ensures next-at2.ensures if1.false if2.false in
    omega (arith, w.left, cut_le args.width (drop args.a args.text.now), length-drop args.a args.text.now)

pub loop-width-preserved : goal.loop-width-preserved
loop-width-preserved c =
    let loop = c.loop-width in
    let next-at = c.next_at-p in
    let next-at2 = c.next_at-q in
    let if1 = c.if-p-eq0 in
    let if2 = c.if-p-q in
    walk_more _ _ loop.i loop.invariant _ _ next-at.ensures next-at2.ensures if1.false if2.false
