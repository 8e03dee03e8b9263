-- `border_pieces::check_piece` meets its contract. Assumes nothing.
use mathlib.Core.Path.{refl}
use Rattle.border_pieces.proofs.Laws.{fed-refused, fed_on}
use Rattle.border_pieces.proofs.check_piece.Goals as goal

pub returns-then-settled-ne-DONE : goal.returns-then-settled-ne-DONE
returns-then-settled-ne-DONE c =
    let r = (let x = c.args in fed-refused x.held.now x.ends.now x.marks.now x.first.now x.piece.now c.if-settled-ne-DONE.true) in
    record { value = r.0; held_after = r.1.0; ends_after = r.1.1.0; marks_after = r.1.1.1.0; first_after = r.1.1.1.1 }

pub returns : goal.returns
returns c =
    let r = (let store_marks = c.store_marks in
    let x = c.args in
    fed_on x.held.now x.ends.now x.marks.now x.first.now x.piece.now c.if-settled-ne-DONE.false c.marks_said-before.ensures
    c.feed-m.ensures
    store_marks.ensures refl) in
    record { value = r.0; held_after = r.1.0; ends_after = r.1.1.0; marks_after = r.1.1.1.0; first_after = r.1.1.1.1 }
