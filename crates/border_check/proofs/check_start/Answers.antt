-- `border_check::check_start` meets its contract. Assumes nothing.
use mathlib.Core.Path.{refl}
use Rattle.border_check.proofs.Laws.{begun}
use Rattle.border_check.proofs.check_start.Goals as goal

pub returns : goal.returns
returns c =
    let r = begun c.start-m.ensures c.store_marks.ensures refl in
    record { value = r.0; marks_after = r.1.0; first_after = r.1.1 }
