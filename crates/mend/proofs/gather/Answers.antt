-- `mend::gather` meets its contract. Assumes nothing.
use native.Mathlib.Omega.{arith}
use mathlib.Core.Path.{sym, ◌∙◌}
use Rattle.reading.proofs.Laws.{none_full, none_left}
use Rattle.mend_kept.proofs.Walk.{gathering_start, gathering_end, gathering_turn, here_end, decoded_inside, decoded_place}
use Rattle.mend.proofs.gather.Goals as goal

pub loop-n-init : goal.loop-n-init
loop-n-init c = gathering_start _ _ _ _ _

pub returns-then-s-c : goal.returns-then-s-c
returns-then-s-c c =
    let r = gathering_end _ _ _ _ _ _ _ _ _ c.loop-n.invariant (here_end _ _ _ _ c.if-s-c.true) in
    record { value = r.0; list_after = r.1 }

pub shape_of-list-in-Err : goal.shape_of-list-in-Err
shape_of-list-in-Err c = c.loop-n.invariant.size

pub returns-in-Err : goal.returns-in-Err
returns-in-Err c =
    let r = (let loop = c.loop-n in
    let decode = c.decode in
    let enum_told = c.in-Err in
    gathering_end _ _ _ _ _ _ _ _ _ loop.invariant (none_left _ _ _ _ c.loop-n-test.true (sym decode.ensures ∙ enum_told.is))) in
    record { value = r.0; list_after = r.1 }

pub choose-taken-requires : goal.choose-taken-requires
choose-taken-requires c = decoded_inside _ _ _ _ _ (sym c.decode.ensures ∙ c.in-Ok.is)

pub element-x-requires : goal.element-x-requires
element-x-requires c =
    let pre = c.requires in
    let decode = c.decode in
    let e = c.in-Ok in
    let w = decoded_place _ _ _ _ _ (sym decode.ensures ∙ e.is) in
    omega (arith, w, pre)

pub push-m-requires : goal.push-m-requires
push-m-requires c =
    let loop = c.loop-n in
    omega (arith, loop.invariant.few, c.loop-n-test.true)

pub loop-n-preserved : goal.loop-n-preserved
loop-n-preserved c =
    let loop = c.loop-n in
    let decode = c.decode in
    let e = c.in-Ok in
    let choose = c.choose-taken in
    let element = c.element-x in
    let push = c.push-m in
    gathering_turn _ _ _ _ _ _ _ _ _ loop.invariant _ _ c.loop-n-test.true (sym decode.ensures ∙ e.is) _ choose.ensures _ element.ensures _
    push.ensures.value _ push.ensures.list_after

pub shape_of-list : goal.shape_of-list
shape_of-list c = c.loop-n.invariant.size

pub returns : goal.returns
returns c =
    let r = gathering_end _ _ _ _ _ _ _ _ _ c.loop-n.invariant (none_full _ _ _ _ c.loop-n-test.false) in
    record { value = r.0; list_after = r.1 }
