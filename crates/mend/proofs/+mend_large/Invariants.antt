-- `mend::mend_large` meets its contract: it calls itself only on a way that its `requires` shuts. Assumes nothing.
use Rattle.mend.proofs.+mend_large.Given as goal

abbrev pub decreases-mend_large : goal.decreases-mend_large
decreases-mend_large l = 0
