-- `edit::put_counted` meets its contract. Assumes nothing.
use native.Mathlib.Omega.{arith}
use mathlib.Core.Path.{sym, ap, ◌∙◌}
use lib.Seq.{sets}
use Rattle.entry.specs.Entry.{as_written}
use Rattle.edit_walk.specs.Walk.{new_entry}
use Rattle.edit.specs.Table.{put_in}
use Rattle.edit.specs.Edit.{entries_in}
use Rattle.edit.proofs.Leaves.{new-good, mode_small}
use Rattle.edit.proofs.Listings.{kept-is, put_used, put-bytes}
use Rattle.edit.proofs.Answers.{named, put_refused, put-many, put-short, put-done}
use Rattle.edit.proofs.put_counted.Goals as goal

pub returns-then-number-ne-DONE : goal.returns-then-number-ne-DONE
returns-then-number-ne-DONE c =
    let r = (let args = c.args in
    let new = new_entry args.mode args.name.now args.id.now in
    let es = entries_in args.h args.bytes.now in
    named _ _ _ _ c.refuse.ensures
    (put_refused _ _ new es (as_written (put_in new es)) args.out.now c.new_number-number.ensures c.if-number-ne-DONE.true)) in
    record { answer = r.0; out = r.1 }

pub overflow_cast-m : goal.overflow_cast-m
overflow_cast-m c =
    let args = c.args in
    let new-number = c.new_number-number in
    let if1 = c.if-number-ne-DONE in
    let good = new-good args.rules args.h (new_entry args.mode args.name.now args.id.now) (sym new-number.ensures ∙ if1.false) in
    omega (arith, mode_small args.rules args.mode good.1)

pub returns-then-w-ge-MOST_RECORDS : goal.returns-then-w-ge-MOST_RECORDS
returns-then-w-ge-MOST_RECORDS c =
    let r = (let args = c.args in
    let new-number = c.new_number-number in
    let if1 = c.if-number-ne-DONE in
    let walk = c.walk-w in
    let new = new_entry args.mode args.name.now args.id.now in
    let es = entries_in args.h args.bytes.now in
    let kept = kept-is args.rules args.h args.bytes.now args.n c.requires.lt_h.0 c.requires.bytes_value new c.requires.lt_h.1 c.requires.lt_h.2 c.requires.lt_h.3 in
    named _ _ _ _ c.refuse-then-w-ge-MOST_RECORDS.ensures
    (put-many _ _ new es (as_written (put_in new es)) args.out.now new-number.ensures if1.false _ (kept _ _ walk.ensures.walked) c.if-w-ge-MOST_RECORDS.true)) in
    record { answer = r.0; out = r.1 }

pub returns-then-out-used : goal.returns-then-out-used
returns-then-out-used c =
    let r = (let args = c.args in
    let new-number = c.new_number-number in
    let if1 = c.if-number-ne-DONE in
    let walk = c.walk-w in
    let if2 = c.if-w-ge-MOST_RECORDS in
    let if3 = c.if-out-used in
    let refuse3 = c.refuse-then-out-used in
    let new = new_entry args.mode args.name.now args.id.now in
    let es = entries_in args.h args.bytes.now in
    let kept = kept-is args.rules args.h args.bytes.now args.n c.requires.lt_h.0 c.requires.bytes_value new c.requires.lt_h.1 c.requires.lt_h.2 c.requires.lt_h.3 in
    let used = put_used args.rules args.h args.bytes.now args.n c.requires.lt_h.0 c.requires.bytes_value new c.requires.lt_h.1 c.requires.lt_h.2 c.requires.lt_h.3 in
    named _ _ _ _ refuse3.ensures
    (put-short _ _ new es (as_written (put_in new es)) args.out.now new-number.ensures if1.false _ (kept _ _ walk.ensures.walked) if2.false
    _ (used _ walk.ensures.walked) if3.true)) in
    record { answer = r.0; out = r.1 }

pub returns : goal.returns
returns c =
    let r = (let args = c.args in
    let walk = c.walk-w in
    let new-number = c.new_number-number in
    let if1 = c.if-number-ne-DONE in
    let if2 = c.if-w-ge-MOST_RECORDS in
    let if3 = c.if-out-used in
    let walk2 = c.walk in
    let new = new_entry args.mode args.name.now args.id.now in
    let es = entries_in args.h args.bytes.now in
    let kept = kept-is args.rules args.h args.bytes.now args.n c.requires.lt_h.0 c.requires.bytes_value new c.requires.lt_h.1 c.requires.lt_h.2 c.requires.lt_h.3 in
    let used = put_used args.rules args.h args.bytes.now args.n c.requires.lt_h.0 c.requires.bytes_value new c.requires.lt_h.1 c.requires.lt_h.2 c.requires.lt_h.3 in
    let bytes = put-bytes args.rules args.h args.bytes.now args.n c.requires.lt_h.0 c.requires.bytes_value new c.requires.lt_h.1 c.requires.lt_h.2 c.requires.lt_h.3 in
    put-done _ _ new es (as_written (put_in new es)) args.out.now new-number.ensures if1.false _ (kept _ _ walk.ensures.walked) if2.false
    _ (used _ walk.ensures.walked) if3.false _ (walk2.ensures.out ∙ ap (sets args.out.now 0) bytes)) in
    record { answer = r.0; out = r.1 }
