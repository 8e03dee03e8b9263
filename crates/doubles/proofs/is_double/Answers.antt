-- `doubles::is_double` meets its contract. Assumes nothing.
use native.Mathlib.Omega.{arith}
use mathlib.Core.Path.{sym}
use mathlib.Core.Logic.{⊎_elim}
use Rattle.doubles.proofs.Stacking.{double_none, double_top, double_file}
use Rattle.doubles.proofs.is_double.Goals as goal

pub returns-then-not-folder : goal.returns-then-not-folder
returns-then-not-folder c =
    let args = c.args in
    sym (⊎_elim (λ w. double_file args.marks.now args.k args.len args.folder w)
    (λ w. double_none args.marks.now args.k args.len args.folder w.0 w.1) c.then-not-folder.either)

pub returns : goal.returns
returns c =
    let args = c.args in
    sym (double_top args.marks.now args.k args.len args.folder c.if-not-folder.false (omega arith))
