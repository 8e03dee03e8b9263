-- `tree_export::walk` meets its contract. Assumes nothing.
use native.Mathlib.Omega.{arith}
use mathlib.Core.Path.{refl, sym, ◌∙◌}
use Rattle.tree_export.proofs.Walks.{walking_start, walking_end, walking_full, walking_broken, walking_more, inside}
use Rattle.tree_export.proofs.walk.Goals as goal

pub loop-init : goal.loop-init
loop-init c = (walking_start _ _ _, refl)

pub returns-then-s-c : goal.returns-then-s-c
returns-then-s-c c = walking_end _ _ _ _ _ _ _ c.loop.invariant.0 c.if-s-c.true

pub put_record-p-requires : goal.put_record-p-requires
put_record-p-requires c =
    let pre = c.requires in
    let loop = c.loop in
    let decode = c.decode in
    let e = c.in-Ok in
    let l = loop.invariant.0 in
    record { name_start_bound = inside _ _ _ _ _ (sym decode.ensures ∙ e.is); h_value = (pre.0, pre.1, omega (arith, l.small, l.few)) }

pub loop-preserved : goal.loop-preserved
loop-preserved c =
    let loop = c.loop in
    let decode = c.decode in
    let e = c.in-Ok in
    let put_record = c.put_record-p in (
      walking_more _ _ _ _ _ _ _ loop.invariant.0 c.loop-test.true _ _ (sym decode.ensures ∙ e.is) _ _ put_record.ensures,
      put_record.auto.out ∙
          loop.invariant.1,
    )

pub shape_of-out-in-Err : goal.shape_of-out-in-Err
shape_of-out-in-Err c = c.loop.invariant.1

pub returns-in-Err : goal.returns-in-Err
returns-in-Err c =
    let loop = c.loop in
    let decode = c.decode in
    let enum_told = c.in-Err in
    walking_broken _ _ _ _ _ _ _ loop.invariant.0 c.loop-test.true (sym decode.ensures ∙ enum_told.is)

pub shape_of-out : goal.shape_of-out
shape_of-out c = c.loop.invariant.1

pub returns : goal.returns
returns c = walking_full _ _ _ _ _ _ _ c.loop.invariant.0 c.loop-test.false
