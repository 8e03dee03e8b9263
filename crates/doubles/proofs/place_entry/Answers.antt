-- `doubles::place_entry` meets its contract. Assumes nothing.
use mathlib.Core.Path.{sym, ◌∙◌}
use Rattle.order.proofs.Laws.{decided_at}
use Rattle.doubles.proofs.Stacking.{went_same, went_above, went_below}
use Rattle.doubles.proofs.place_entry.Goals as goal

pub returns-in-Less : goal.returns-in-Less
returns-in-Less c =
    let r = (let args = c.args in
    let common-start = c.common_start-p in
    let by_next = c.by_next in
    let enum_told = c.in-Less in
    went_below args.marks.now args.n args.last.now args.was args.name.now args.folder
    (decided_at _ _ _ _ _ common-start.ensures ∙ sym by_next.ensures ∙ enum_told.is) common-start.result common-start.ensures
    (c.open_entry.ensures.placed, c.open_entry.ensures.marks)) in
    record { placed = r.0; marks = r.1 }

pub returns-in-Equal : goal.returns-in-Equal
returns-in-Equal c =
    let r = (let args = c.args in
    let common-start = c.common_start-p in
    let by_next = c.by_next in
    let enum-told2 = c.in-Equal in
    went_same args.marks.now args.n args.last.now args.was args.name.now args.folder
    (decided_at _ _ _ _ _ common-start.ensures ∙ sym by_next.ensures ∙ enum-told2.is)) in
    record { placed = r.0; marks = r.1 }

pub returns-in-Greater : goal.returns-in-Greater
returns-in-Greater c =
    let r = (let args = c.args in
    let common-start = c.common_start-p in
    let by_next = c.by_next in
    let enum-told3 = c.in-Greater in
    went_above args.marks.now args.n args.last.now args.was args.name.now args.folder
    (decided_at _ _ _ _ _ common-start.ensures ∙ sym by_next.ensures ∙ enum-told3.is)) in
    record { placed = r.0; marks = r.1 }
