-- `reading::remember` meets its contract. Assumes nothing.
use native.Mathlib.Omega.{arith}
use Rattle.reading.proofs.Lengths.{kept-past, kept-long, kept_here}
use Rattle.reading.proofs.remember.Goals as goal
use Rattle.reading.proofs.remember.Goals.{else-n-lengths-via-then-n-lengths+else-len-le255, else-n-lengths-via-else-n-lengths}

pub returns-then-len-le255 : goal.returns-then-len-le255
returns-then-len-le255 c = kept_here _ _ _ (omega arith)

pub returns-else-n-lengths : goal.returns-else-n-lengths
returns-else-n-lengths c =
    elim c.else-n-lengths.branch [
      | else-n-lengths-via-then-n-lengths+else-len-le255 w ↦ kept-long _ _ _ (omega (arith, w.if-len-le255.false))
      | else-n-lengths-via-else-n-lengths w ↦ kept-past _ _ _ w.if-n-lengths.false
    ]
