-- `edit_turn::turn_at` meets its contract. Assumes nothing.
use native.Mathlib.Omega.{arith}
use Rattle.edit_turn.proofs.Laws.{turn-broken, turn_inside, turn-out, turn-over, turn-behind}
use Rattle.edit_turn.proofs.turn_at.Goals as goal

pub slice_bounds-fate_of-count : goal.slice_bounds-fate_of-count
slice_bounds-fate_of-count c =
    let args = c.args in
    let decode = c.decode in
    let f = turn_inside args.h args.s.now args.at args.name.now args.tree args.placed _ decode.ensures _ _ c.in-Ok.is in
    omega (arith, f.0, f.1)

pub slice_bounds-fate_of-start : goal.slice_bounds-fate_of-start
slice_bounds-fate_of-start c =
    let args = c.args in
    let decode = c.decode in
    let f = turn_inside args.h args.s.now args.at args.name.now args.tree args.placed _ decode.ensures _ _ c.in-Ok.is in
    omega (arith, f.0, f.1)

pub slice_bounds-fate_of-end : goal.slice_bounds-fate_of-end
slice_bounds-fate_of-end c =
    let args = c.args in
    let decode = c.decode in
    let f = turn_inside args.h args.s.now args.at args.name.now args.tree args.placed _ decode.ensures _ _ c.in-Ok.is in
    omega (arith, f.0, f.1)

pub returns-in-Err : goal.returns-in-Err
returns-in-Err c =
    let decode = c.decode in
    turn-broken _ _ _ _ _ _ _ decode.ensures _ c.in-Err.is

pub returns-in-Out : goal.returns-in-Out
returns-in-Out c =
    let decode = c.decode in
    let e = c.in-Ok in
    let is-folder = c.is_folder in
    let fate-of = c.fate_of in
    turn-out _ _ _ _ _ _ _ decode.ensures _ _ e.is _ is-folder.ensures _ fate-of.ensures c.in-Out.is

pub returns-in-Over : goal.returns-in-Over
returns-in-Over c =
    let decode = c.decode in
    let e = c.in-Ok in
    let is-folder = c.is_folder in
    let fate-of = c.fate_of in
    turn-over _ _ _ _ _ _ _ decode.ensures _ _ e.is _ is-folder.ensures _ fate-of.ensures c.in-Over.is

pub returns-in-Behind : goal.returns-in-Behind
returns-in-Behind c =
    let decode = c.decode in
    let e = c.in-Ok in
    let is-folder = c.is_folder in
    let fate-of = c.fate_of in
    turn-behind _ _ _ _ _ _ _ decode.ensures _ _ e.is _ is-folder.ensures _ fate-of.ensures c.in-Behind.is
