-- `tree_import::import_large` meets its contract: it calls itself only on a way that its `requires` shuts. Assumes nothing.
use Rattle.tree_import.proofs.+import_large.Given as goal

abbrev pub decreases-import_large : goal.decreases-import_large
decreases-import_large l = 0
