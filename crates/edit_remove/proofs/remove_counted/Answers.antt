-- `edit_remove::remove_counted` meets its contract. Assumes nothing.
use mathlib.Core.Path.{ap, ◌∙◌}
use lib.Seq.{sets}
use Rattle.entry.specs.Entry.{as_written}
use Rattle.edit_walk.specs.Walk.{new_entry}
use Rattle.edit.specs.Table.{remove_from}
use Rattle.edit.specs.Edit.{entries_in}
use Rattle.edit.proofs.Listings.{entries-count, kept-is, remove_used, remove-bytes}
use Rattle.edit.proofs.Answers.{remove-missing, remove-short, remove-done}
use Rattle.edit_remove.proofs.remove_counted.Goals as goal

pub returns-then-w-n : goal.returns-then-w-n
returns-then-w-n c =
    let r = (let args = c.args in
    let walk = c.walk-w in
    let name = args.name.now in
    let es = entries_in args.h args.bytes.now in
    let count = entries-count args.rules args.h args.bytes.now args.n c.requires.lt_h.0 c.requires.bytes_value in
    let kept = kept-is args.rules args.h args.bytes.now args.n c.requires.lt_h.0 c.requires.bytes_value (new_entry 0 name name) c.requires.lt_h.1 c.requires.lt_h.2 c.requires.lt_h.2 in
    remove-missing name es (as_written (remove_from name es)) args.out.now _ _ (kept _ _ walk.ensures.walked) count c.if-w-n.true) in
    record { answer = r.0; out = r.1 }

pub returns-then-out-used : goal.returns-then-out-used
returns-then-out-used c =
    let r = (let args = c.args in
    let walk = c.walk-w in
    let if1 = c.if-w-n in
    let if2 = c.if-out-used in
    let name = args.name.now in
    let es = entries_in args.h args.bytes.now in
    let count = entries-count args.rules args.h args.bytes.now args.n c.requires.lt_h.0 c.requires.bytes_value in
    let kept = kept-is args.rules args.h args.bytes.now args.n c.requires.lt_h.0 c.requires.bytes_value (new_entry 0 name name) c.requires.lt_h.1 c.requires.lt_h.2 c.requires.lt_h.2 in
    let used = remove_used args.rules args.h args.bytes.now args.n c.requires.lt_h.0 c.requires.bytes_value (new_entry 0 name name) c.requires.lt_h.1 c.requires.lt_h.2 c.requires.lt_h.2
    in
    remove-short name es (as_written (remove_from name es)) args.out.now _ _ (kept _ _ walk.ensures.walked) count if1.false _ (used _ walk.ensures.walked)
    if2.true) in
    record { answer = r.0; out = r.1 }

pub returns : goal.returns
returns c =
    let r = (let args = c.args in
    let walk = c.walk-w in
    let if1 = c.if-w-n in
    let if2 = c.if-out-used in
    let walk2 = c.walk in
    let name = args.name.now in
    let es = entries_in args.h args.bytes.now in
    let count = entries-count args.rules args.h args.bytes.now args.n c.requires.lt_h.0 c.requires.bytes_value in
    let kept = kept-is args.rules args.h args.bytes.now args.n c.requires.lt_h.0 c.requires.bytes_value (new_entry 0 name name) c.requires.lt_h.1 c.requires.lt_h.2 c.requires.lt_h.2 in
    let used = remove_used args.rules args.h args.bytes.now args.n c.requires.lt_h.0 c.requires.bytes_value (new_entry 0 name name) c.requires.lt_h.1 c.requires.lt_h.2 c.requires.lt_h.2
    in
    let bytes = remove-bytes args.rules args.h args.bytes.now args.n c.requires.lt_h.0 c.requires.bytes_value (new_entry 0 name name) c.requires.lt_h.1 c.requires.lt_h.2
    c.requires.lt_h.2 in
    remove-done name es (as_written (remove_from name es)) args.out.now _ _ (kept _ _ walk.ensures.walked) count if1.false _ (used _ walk.ensures.walked)
    if2.false
    _ (walk2.ensures.out ∙ ap (sets args.out.now 0) bytes)) in
    record { answer = r.0; out = r.1 }
