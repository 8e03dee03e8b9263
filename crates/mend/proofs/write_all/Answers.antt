-- `mend::write_all` meets its contract. Assumes nothing.
use native.Mathlib.Omega.{arith}
use mathlib.Core.Path.{refl}
use Rattle.mend_kept.proofs.Bytes.{writing_start, writing_end, writing-turn}
use Rattle.mend.proofs.write_all.Goals as goal

pub loop-x-init : goal.loop-x-init
loop-x-init c = writing_start _ _ _ _

pub write_one-at-requires : goal.write_one-at-requires
write_one-at-requires c =
    let pre = c.requires in
    let loop = c.loop-x in
    record { s_len_bound = c.requires.s_len_bound; at_bound = omega (arith, loop.invariant.few, pre) }

pub loop-x-preserved : goal.loop-x-preserved
loop-x-preserved c =
    let loop = c.loop-x in
    let loop-test = c.loop-x-test in
    let write-one = c.write_one-at in
    writing-turn _ _ _ _ _ _ _ loop.invariant loop-test.true c.requires.s_len_bound _ refl _ write-one.ensures.value _ write-one.auto.out write-one.ensures.out_after

pub shape_of-out : goal.shape_of-out
shape_of-out c = c.loop-x.invariant.size

pub returns : goal.returns
returns c = writing_end _ _ _ _ _ _ _ c.loop-x.invariant c.loop-x-test.false
