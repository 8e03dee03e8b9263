-- `doubles::open_next` meets its contract. Assumes nothing.
use mathlib.Core.Logic.{⊎_elim}
use Rattle.doubles.proofs.Stacking.{did_folder, did_less, did_full, did_open}
use Rattle.doubles.proofs.open_next.Goals as goal

pub returns-then-was : goal.returns-then-was
returns-then-was c =
    let a = c.args in
    let r = ⊎_elim (λ w. did_folder a.marks.now a.n a.p a.len a.was w c.kept.ensures)
    (λ w. did_less a.marks.now a.n a.p a.len a.was w.1 c.kept.ensures) c.then-was.either in
    record { count = r.0; marks = r.1 }

pub returns-then-marks-n : goal.returns-then-marks-n
returns-then-marks-n c =
    let a = c.args in
    let r = did_full a.marks.now a.n a.p a.len a.was c.if-was.false c.if-p-len.false c.if-marks-n.true in
    record { count = r.0; marks = r.1 }

pub returns : goal.returns
returns c =
    let a = c.args in
    let r = did_open a.marks.now a.n a.p a.len a.was c.if-was.false c.if-p-len.false c.if-marks-n.false in
    record { count = r.0; marks = r.1 }
