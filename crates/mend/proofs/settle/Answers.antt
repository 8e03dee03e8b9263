-- `mend::settle` meets its contract. Assumes nothing.
use native.Mathlib.Omega.{arith}
use mathlib.Core.Path.{sym, ◌∙◌}
use Rattle.reading.proofs.Laws.{none_full, none_left}
use Rattle.mend_kept.proofs.Bytes.{own-most}
use Rattle.mend_kept.proofs.Fates.{plain_key}
use Rattle.mend_kept.proofs.Walk.{settling_start, settling_end, settling_turn, settling_room, sum_is, here_end, decoded_inside, decoded_place, decoded_size}
use Rattle.mend.proofs.settle.Goals as goal

pub loop-n-init : goal.loop-n-init
loop-n-init c = settling_start _ _ _ _

pub returns-then-s-c : goal.returns-then-s-c
returns-then-s-c c =
    let r = settling_end _ _ _ _ _ _ _ _ c.loop-n.invariant (here_end _ _ _ _ c.if-s-c.true) in
    record { value = r.0; fates_after = r.1 }

pub shape_of-fates-in-Err : goal.shape_of-fates-in-Err
shape_of-fates-in-Err c = c.loop-n.invariant.long

pub returns-in-Err : goal.returns-in-Err
returns-in-Err c =
    let r = (let loop = c.loop-n in
    let decode = c.decode in
    let enum_told = c.in-Err in
    settling_end _ _ _ _ _ _ _ _ loop.invariant (none_left _ _ _ _ c.loop-n-test.true (sym decode.ensures ∙ enum_told.is))) in
    record { value = r.0; fates_after = r.1 }

pub entry_fate-fate-requires : goal.entry_fate-fate-requires
entry_fate-fate-requires c =
    let decode = c.decode in
    let e = c.in-Ok in
    let d = sym decode.ensures ∙ e.is in
    record { known = c.requires.known; inside = decoded_inside _ _ _ _ _ d; text_start_bound = omega (arith, decoded_place _ _ _ _ _ d, c.requires.s_len_bound); e_value = plain_key _ _ c.requires.le_h.0 _ _ _ d }

pub kept_size-size-requires : goal.kept_size-size-requires
kept_size-size-requires c =
    let decode = c.decode in
    let e = c.in-Ok in
    let w = decoded_size _ _ _ _ _ (sym decode.ensures ∙ e.is) in
    (w.0, omega (arith, w, c.requires.s_len_bound), c.requires.le_h.1)

pub overflow_add-size : goal.overflow_add-size
overflow_add-size c =
    let loop = c.loop-n in
    let decode = c.decode in
    let e = c.in-Ok in
    let entry-fate = c.entry_fate-fate in
    let kept-size = c.kept_size-size in
    let r = settling_room _ _ _ _ _ _ _ _ loop.invariant _ _ c.loop-n-test.true (sym decode.ensures ∙ e.is) _ entry-fate.ensures (own-most _) in
    let w = decoded_place _ _ _ _ _ (sym decode.ensures ∙ e.is) in
    omega (arith, r, w, kept-size.ensures, c.requires.s_len_bound, c.loop-n-test.true)

pub loop-n-preserved : goal.loop-n-preserved
loop-n-preserved c =
    let loop = c.loop-n in
    let decode = c.decode in
    let e = c.in-Ok in
    let entry-fate = c.entry_fate-fate in
    let put-fate = c.put_at in
    let kept-size = c.kept_size-size in
    settling_turn _ _ _ _ _ _ _ _ loop.invariant _ _ c.loop-n-test.true (sym decode.ensures ∙ e.is) _ entry-fate.ensures (own-most _) _ put-fate.ensures _
    (sum_is _ _ kept-size.ensures)

pub shape_of-fates : goal.shape_of-fates
shape_of-fates c = c.loop-n.invariant.long

pub returns : goal.returns
returns c =
    let r = settling_end _ _ _ _ _ _ _ _ c.loop-n.invariant (none_full _ _ _ _ c.loop-n-test.false) in
    record { value = r.0; fates_after = r.1 }
