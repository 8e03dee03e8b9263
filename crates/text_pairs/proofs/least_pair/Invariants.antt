-- `text_pairs::least_pair` meets its contract. Assumes nothing.
use mathlib.Core.Path.{◌≡◌}
use lib.ListN.{drop}
use Rattle.keys.specs.Key.{key_at, below_by}
use Rattle.text_repeats.specs.Least.{same_record}
use Rattle.text_pairs.specs.Pairs.{least_pair}
use Rattle.text_pairs.proofs.least_pair.Given as goal

abbrev pub invariant-loop-j : goal.invariant-loop-j
invariant-loop-j l = least_pair (below_by (key_at l.text 9 0)) (same_record l.text) l.list l.list 4294967296 ≡ least_pair (below_by (key_at l.text 9 0)) (same_record l.text) l.list (drop l.j l.list) l.least
