-- `edit_walk::carry` meets its contract. Assumes nothing.
use native.Mathlib.Omega.{arith}
use mathlib.Core.Path.{ap, ◌∙◌}
use Rattle.std.specs.Prelude.{Some}
use Rattle.edit_turn.specs.declared.Fate.{Fate}
use Rattle.edit_walk.proofs.Walks.{walking_start, walking_end, walking_drop, walking_keep, walking_first, keep_leads, first_leads, ends-placed, ends_last}
use Rattle.edit_walk.proofs.carry.Goals as goal

pub loop-left-init : goal.loop-left-init
loop-left-init c =
    let pre = c.requires in
    walking_start _ _ _ _ _ _ pre.3

pub loop-left-preserved-in-None : goal.loop-left-preserved-in-None
loop-left-preserved-in-None c =
    let loop = c.loop-left in
    let loop-test = c.loop-left-test in
    let is-tree = c.is_tree-tree in
    let turn_at = c.turn_at in
    walking_end _ _ _ _ _ _ _ _ _ _ _ _ loop.invariant loop-test.true _ is-tree.ensures _ turn_at.ensures c.in-None.is

pub loop-left-preserved-in-Out : goal.loop-left-preserved-in-Out
loop-left-preserved-in-Out c =
    let loop = c.loop-left in
    let loop-test = c.loop-left-test in
    let is-tree = c.is_tree-tree in
    let turn_at = c.turn_at in
    walking_drop _ _ _ _ _ _ _ _ _ _ _ _ loop.invariant loop-test.true _ is-tree.ensures _ turn_at.ensures _ (c.in-Some.is ∙ ap (λ (f : Fate). Some (f, c.in-Some.next)) c.in-Out.is)

pub slice_bounds-put-count : goal.slice_bounds-put-count
slice_bounds-put-count c =
    let loop = c.loop-left in
    let loop-test = c.loop-left-test in
    let is-tree = c.is_tree-tree in
    let turn_at = c.turn_at in
    let is = c.in-Some.is ∙ ap (λ (f : Fate). Some (f, c.in-Some.next)) c.in-Over.is in
    let d = keep_leads _ _ _ _ _ _ _ _ _ _ _ _ loop.invariant loop-test.true _ is-tree.ensures _ turn_at.ensures _ is in
    omega (arith, d.0, d.1)

pub slice_bounds-put-start : goal.slice_bounds-put-start
slice_bounds-put-start c =
    let loop = c.loop-left in
    let loop-test = c.loop-left-test in
    let is-tree = c.is_tree-tree in
    let turn_at = c.turn_at in
    let is = c.in-Some.is ∙ ap (λ (f : Fate). Some (f, c.in-Some.next)) c.in-Over.is in
    let d = keep_leads _ _ _ _ _ _ _ _ _ _ _ _ loop.invariant loop-test.true _ is-tree.ensures _ turn_at.ensures _ is in
    omega (arith, d.0, d.1)

pub slice_bounds-put-end : goal.slice_bounds-put-end
slice_bounds-put-end c =
    let loop = c.loop-left in
    let loop-test = c.loop-left-test in
    let is-tree = c.is_tree-tree in
    let turn_at = c.turn_at in
    let is = c.in-Some.is ∙ ap (λ (f : Fate). Some (f, c.in-Some.next)) c.in-Over.is in
    let d = keep_leads _ _ _ _ _ _ _ _ _ _ _ _ loop.invariant loop-test.true _ is-tree.ensures _ turn_at.ensures _ is in
    omega (arith, d.0, d.1)

pub overflow_sub-used : goal.overflow_sub-used
overflow_sub-used c =
    let loop = c.loop-left in
    let loop-test = c.loop-left-test in
    let is-tree = c.is_tree-tree in
    let turn_at = c.turn_at in
    let is = c.in-Some.is ∙ ap (λ (f : Fate). Some (f, c.in-Some.next)) c.in-Over.is in
    let d = keep_leads _ _ _ _ _ _ _ _ _ _ _ _ loop.invariant loop-test.true _ is-tree.ensures _ turn_at.ensures _ is in
    omega (arith, d.0, d.1)

pub overflow_add-used : goal.overflow_add-used
overflow_add-used c =
    let loop = c.loop-left in
    let loop-test = c.loop-left-test in
    let is-tree = c.is_tree-tree in
    let turn_at = c.turn_at in
    let is = c.in-Some.is ∙ ap (λ (f : Fate). Some (f, c.in-Some.next)) c.in-Over.is in
    let pre = c.requires in
    let inv = loop.invariant in
    let d = keep_leads _ _ _ _ _ _ _ _ _ _ _ _ loop.invariant loop-test.true _ is-tree.ensures _ turn_at.ensures _ is in
    omega (arith, d.0, d.1, inv.small, inv.few, inv.fewer, pre.2)

pub overflow_add-kept : goal.overflow_add-kept
overflow_add-kept c =
    let loop = c.loop-left in
    let inv = loop.invariant in
    omega (arith, inv.few, inv.fewer)

pub loop-left-preserved-in-Over : goal.loop-left-preserved-in-Over
loop-left-preserved-in-Over c =
    let loop = c.loop-left in
    let turn_at = c.turn_at in
    let is-tree = c.is_tree-tree in
    let loop-test = c.loop-left-test in
    let is = c.in-Some.is ∙ ap (λ (f : Fate). Some (f, c.in-Some.next)) c.in-Over.is in
    let pre = c.requires in
    let put = c.put in
    let taken = loop-test.true in
    let next = is in
    walking_keep _ _ _ _ _ _ _ _ _ _ _ _ loop.invariant taken _ is-tree.ensures _ turn_at.ensures _ pre.2
    (keep_leads _ _ _ _ _ _ _ _ _ _ _ _ loop.invariant taken _ is-tree.ensures _ turn_at.ensures _ next) next _ put.auto.out put.ensures

pub put_new-from-requires : goal.put_new-from-requires
put_new-from-requires c =
    let pre = c.requires in
    let loop = c.loop-left in
    let inv = loop.invariant in
    (pre.0, pre.1, omega (arith, inv.small, inv.few))

pub slice_bounds-put-count-in-Behind : goal.slice_bounds-put-count-in-Behind
slice_bounds-put-count-in-Behind c =
    let loop = c.loop-left in
    let loop-test = c.loop-left-test in
    let is-tree = c.is_tree-tree in
    let turn_at = c.turn_at in
    let is = c.in-Some.is ∙ ap (λ (f : Fate). Some (f, c.in-Some.next)) c.in-Behind.is in
    let d = first_leads _ _ _ _ _ _ _ _ _ _ _ _ loop.invariant loop-test.true _ is-tree.ensures _ turn_at.ensures _ is in
    omega (arith, d.0, d.1)

pub slice_bounds-put-start-in-Behind : goal.slice_bounds-put-start-in-Behind
slice_bounds-put-start-in-Behind c =
    let loop = c.loop-left in
    let loop-test = c.loop-left-test in
    let is-tree = c.is_tree-tree in
    let turn_at = c.turn_at in
    let is = c.in-Some.is ∙ ap (λ (f : Fate). Some (f, c.in-Some.next)) c.in-Behind.is in
    let d = first_leads _ _ _ _ _ _ _ _ _ _ _ _ loop.invariant loop-test.true _ is-tree.ensures _ turn_at.ensures _ is in
    omega (arith, d.0, d.1)

pub slice_bounds-put-end-in-Behind : goal.slice_bounds-put-end-in-Behind
slice_bounds-put-end-in-Behind c =
    let loop = c.loop-left in
    let loop-test = c.loop-left-test in
    let is-tree = c.is_tree-tree in
    let turn_at = c.turn_at in
    let is = c.in-Some.is ∙ ap (λ (f : Fate). Some (f, c.in-Some.next)) c.in-Behind.is in
    let d = first_leads _ _ _ _ _ _ _ _ _ _ _ _ loop.invariant loop-test.true _ is-tree.ensures _ turn_at.ensures _ is in
    omega (arith, d.0, d.1)

pub overflow_sub-used-in-Behind : goal.overflow_sub-used-in-Behind
overflow_sub-used-in-Behind c =
    let loop = c.loop-left in
    let loop-test = c.loop-left-test in
    let is-tree = c.is_tree-tree in
    let turn_at = c.turn_at in
    let is = c.in-Some.is ∙ ap (λ (f : Fate). Some (f, c.in-Some.next)) c.in-Behind.is in
    let d = first_leads _ _ _ _ _ _ _ _ _ _ _ _ loop.invariant loop-test.true _ is-tree.ensures _ turn_at.ensures _ is in
    omega (arith, d.0, d.1)

pub overflow_add-used-in-Behind : goal.overflow_add-used-in-Behind
overflow_add-used-in-Behind c =
    let pre = c.requires in
    let is-tree = c.is_tree-tree in
    let loop = c.loop-left in
    let loop-test = c.loop-left-test in
    let turn_at = c.turn_at in
    let is = c.in-Some.is ∙ ap (λ (f : Fate). Some (f, c.in-Some.next)) c.in-Behind.is in
    let put-new = c.put_new-from in
    let inv = loop.invariant in
    let d = first_leads _ _ _ _ _ _ _ _ _ _ _ _ loop.invariant loop-test.true _ is-tree.ensures _ turn_at.ensures _ is in
    omega (arith, d.0, d.1, put-new.ensures.next.1, inv.small, inv.few, inv.fewer, pre.2)

pub overflow_add-kept-in-Behind : goal.overflow_add-kept-in-Behind
overflow_add-kept-in-Behind c =
    let loop = c.loop-left in
    let inv = loop.invariant in
    omega (arith, inv.few, inv.fewer)

pub loop-left-preserved : goal.loop-left-preserved
loop-left-preserved c =
    let pre = c.requires in
    let is-tree = c.is_tree-tree in
    let loop = c.loop-left in
    let loop-test = c.loop-left-test in
    let turn_at = c.turn_at in
    let is = c.in-Some.is ∙ ap (λ (f : Fate). Some (f, c.in-Some.next)) c.in-Behind.is in
    let put-new = c.put_new-from in
    let put2 = c.put-in-Behind in
    let taken = loop-test.true in
    let next = is in
    let put = put2 in
    walking_first _ _ _ _ _ _ _ _ _ _ _ _ loop.invariant taken _ is-tree.ensures _ turn_at.ensures _ pre.2
    (first_leads _ _ _ _ _ _ _ _ _ _ _ _ loop.invariant taken _ is-tree.ensures _ turn_at.ensures _ next) next _ _ _
    put-new.ensures.next.0 put-new.ensures.next.1 put-new.ensures.out put-new.auto.out put.auto.out put.ensures

pub shape_of-out-then-placed : goal.shape_of-out-then-placed
shape_of-out-then-placed c =
    let loop = c.loop-left in
    loop.invariant.lent

pub returns-then-placed : goal.returns-then-placed
returns-then-placed c =
    let r = (let loop = c.loop-left in
    ends-placed _ _ _ _ _ _ _ _ _ _ _ _ loop.invariant (omega (arith, c.loop-left-test.false)) c.if-placed.true) in
    record { used = r.0; kept = r.1.0; out = r.1.1 }

pub put_new-end-requires : goal.put_new-end-requires
put_new-end-requires c =
    let pre = c.requires in
    let loop = c.loop-left in
    let inv = loop.invariant in
    (pre.0, pre.1, omega (arith, inv.small, inv.few))

pub shape_of-out : goal.shape_of-out
shape_of-out c =
    let put-new2 = c.put_new-end in
    let loop = c.loop-left in
    put-new2.auto.out ∙ loop.invariant.lent

pub returns : goal.returns
returns c =
    let r = (let put-new2 = c.put_new-end in
    let loop = c.loop-left in
    let loop-test = c.loop-left-test in
    let if1 = c.if-placed in
    let put-new = put-new2 in
    ends_last _ _ _ _ _ _ _ _ _ _ _ _ loop.invariant (omega (arith, loop-test.false)) if1.false _ _ put-new.ensures.next.0 put-new.ensures.out) in
    record { used = r.0; kept = r.1.0; out = r.1.1 }
