-- `difference::compare_large` meets its contract: it calls itself only on a way that its `requires` shuts. Assumes nothing.
use Rattle.difference.proofs.+compare_large.Given as goal

abbrev pub decreases-compare_large : goal.decreases-compare_large
decreases-compare_large l = 0
