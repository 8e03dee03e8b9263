-- `commit_value::put_folded` meets its contract. Assumes nothing.
use Rattle.std.proofs.Common.{◌+◌, ◌*◌, ◌≤◌, drop}
use Rattle.commit_value.proofs.Laws.{Left}
use Rattle.commit_value.specs.Fold.{fold_rest, fold_value}
use Rattle.commit_value.proofs.put_folded.Given as goal

abbrev pub invariant-loop-b : goal.invariant-loop-b
invariant-loop-b l = record {
  place : l.to ≤ l.at + 2 * l.b-index;
  left : Left l.initial.out l.at (fold_value l.v) l.out l.to (fold_rest l.prev (drop l.b-index l.v));
}
