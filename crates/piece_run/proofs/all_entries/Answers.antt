-- `piece_run::all_entries` meets its contract. Assumes nothing.
use native.Mathlib.Omega.{arith}
use Rattle.piece_run.proofs.Runs.{all_none, all_begin, all_end, all_stops, one-counted, all_goes, all_fits}
use Rattle.piece_run.proofs.all_entries.Goals as goal

pub returns-then-r-gt-MOST_HELD : goal.returns-then-r-gt-MOST_HELD
returns-then-r-gt-MOST_HELD c =
    let r = (let args = c.args in
    all_none args.piece.now args.h args.from args.held.now args.ends.now c.if-r-gt-MOST_HELD.true) in
    record { run = r.0; held = r.1.0; ends = r.1.1 }

pub loop-r-init : goal.loop-r-init
loop-r-init c =
    let args = c.args in
    (c.if-r-gt-MOST_HELD.false, all_begin args.piece.now args.h args.from args.held.now args.ends.now c.if-r-gt-MOST_HELD.false)

pub one_entry-t-requires : goal.one_entry-t-requires
one_entry-t-requires c = (c.loop-r.invariant.0, c.loop-r-test.true)

pub returns-then-t-r : goal.returns-then-t-r
returns-then-t-r c =
    let r = (let args = c.args in
    let loop = c.loop-r in
    let if2 = c.loop-r-test in
    let one_entry = c.one_entry-t in
    all_stops args.piece.now args.h loop.r loop.held loop.ends _ loop.invariant.1 one_entry.result _ _ if2.true
    (c.one_entry-t.ensures.run, (c.one_entry-t.ensures.held, c.one_entry-t.ensures.ends)) c.if-t-r.true) in
    record { run = r.0; held = r.1.0; ends = r.1.1 }

pub loop-r-smaller : goal.loop-r-smaller
loop-r-smaller c =
    let args = c.args in
    let loop = c.loop-r in
    let if2 = c.loop-r-test in
    let one_entry = c.one_entry-t in
    omega (
      arith,
      if2.true,
      one-counted args.piece.now args.h loop.r loop.held loop.ends _ loop.invariant.1 one_entry.result _ _
          if2.true (c.one_entry-t.ensures.run, (c.one_entry-t.ensures.held, c.one_entry-t.ensures.ends)) c.if-t-r.false,
    )

pub loop-r-preserved : goal.loop-r-preserved
loop-r-preserved c =
    let args = c.args in
    let loop = c.loop-r in
    let if2 = c.loop-r-test in
    let one_entry = c.one_entry-t in (
      all_fits args.piece.now args.h loop.r loop.held loop.ends _ loop.invariant.1 one_entry.result _ _ if2.true
          (c.one_entry-t.ensures.run, (c.one_entry-t.ensures.held, c.one_entry-t.ensures.ends)) loop.invariant.0,
      all_goes args.piece.now args.h loop.r loop.held loop.ends _ loop.invariant.1
          one_entry.result _ _ if2.true (c.one_entry-t.ensures.run, (c.one_entry-t.ensures.held, c.one_entry-t.ensures.ends)) c.if-t-r.false,
    )

pub returns : goal.returns
returns c =
    let r = (let args = c.args in
    let loop = c.loop-r in
    all_end args.piece.now args.h loop.r loop.held loop.ends _ loop.invariant.1 c.loop-r-test.false) in
    record { run = r.0; held = r.1.0; ends = r.1.1 }
