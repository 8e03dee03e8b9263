-- `tree_import::import_large` meets its contract: it calls itself only on a way that its `requires` shuts. Assumes nothing.
use native.Mathlib.Omega.{arith}
use Rattle.mend.proofs.Whole.{most_le}
use Rattle.text_import.proofs.Lent.{both_most}
use Rattle.tree_import.proofs.+import_large.Goals as goal

pub import_large-requires : goal.import_large-requires
import_large-requires t c = absurd (omega arith)

pub shape_of-out-then-text-gt-MOST_BYTES : goal.shape_of-out-then-text-gt-MOST_BYTES
shape_of-out-then-text-gt-MOST_BYTES t c = absurd (omega arith)

pub returns-then-text-gt-MOST_BYTES : goal.returns-then-text-gt-MOST_BYTES
returns-then-text-gt-MOST_BYTES t c = absurd (omega arith)

pub shape_of-out : goal.shape_of-out
shape_of-out t c = c.import_own.auto.out

pub returns : goal.returns
returns t c =
    let a = c.args in
    let e = c.import_own.ensures in
    let r = both_most a.rules a.h a.text.now c.requires.0 c.requires.1 a.out.now _ _ _ e.answer e.out most_le in
    record { answer = r.0; out = r.1 }
