-- `pieces::whole` meets its contract. Assumes nothing.
use mathlib.Core.Path.{sym, ◌∙◌}
use native.Mathlib.Omega.{arith}
use Rattle.piece_between.proofs.Between.{between_is}
use Rattle.piece_takes.proofs.Wholes.{eight_kept, run-within, took_ran}
use Rattle.pieces.proofs.whole.Goals as goal

pub overflow_sub-piece : goal.overflow_sub-piece
overflow_sub-piece c = omega arith

pub is_between-requires : goal.is_between-requires
is_between-requires c = tt

pub all_entries-r-requires : goal.all_entries-r-requires
all_entries-r-requires c = tt

pub overflow_sub-r : goal.overflow_sub-r
overflow_sub-r c =
    let args = c.args in
    let pre = c.requires in
    let if1 = c.if-is_between in
    let is-between = c.is_between in
    let lent2 = c.lent-2-1 in
    let all-entries = c.all_entries-r in
    omega (
      arith,
      run-within args.held.now args.ends.now args.m args.piece.now args.i pre
          (between_is args.m _ (sym is-between.ensures ∙ if1.true))
          lent2.given _ _ all-entries.result (c.all_entries-r.ensures.run, (c.all_entries-r.ensures.held, c.all_entries-r.ensures.ends)),
    )

pub overflow_add-m : goal.overflow_add-m
overflow_add-m c =
    let args = c.args in
    let pre = c.requires in
    let if1 = c.if-is_between in
    let is-between = c.is_between in
    let lent2 = c.lent-2-1 in
    let all-entries = c.all_entries-r in
    omega (
      arith,
      run-within args.held.now args.ends.now args.m args.piece.now args.i pre
          (between_is args.m _ (sym is-between.ensures ∙ if1.true))
          lent2.given _ _ all-entries.result (c.all_entries-r.ensures.run, (c.all_entries-r.ensures.held, c.all_entries-r.ensures.ends)),
    )

pub ran-requires : goal.ran-requires
ran-requires c = tt

pub returns-then-is_between : goal.returns-then-is_between
returns-then-is_between c =
    let r = (let args = c.args in
    let pre = c.requires in
    let good = c.well_formed in
    let if1 = c.if-is_between in
    let is-between = c.is_between in
    let lent2 = c.lent-2-1 in
    let all-entries = c.all_entries-r in
    took_ran args.held.now args.ends.now args.m args.piece.now args.i pre
    (between_is args.m _ (sym is-between.ensures ∙ if1.true))
    lent2.given _ _ all-entries.result (c.all_entries-r.ensures.run, (c.all_entries-r.ensures.held, c.all_entries-r.ensures.ends))
    (eight_kept args.m _ good.1.1.0) c.ran.result c.ran.ensures) in
    record { took = r.0; room = r.1 }
