-- `unfold::put_plain` meets its contract. Assumes nothing.
use Rattle.std.proofs.Common.{◌≡◌, ◌≤◌, ◌+◌, length, drop}
use Rattle.std.proofs.lemmas.List.Edits.{sets}
use Rattle.unfold.specs.Unfold.{plain_of, plain_from}
use Rattle.unfold.proofs.put_plain.Given as goal

abbrev pub invariant-loop-x : goal.invariant-loop-x
invariant-loop-x l = record {
  few : l.n ≤ l.x-index;
  many : length (plain_of l.mark l.v) ≡ l.n + length (plain_from l.mark l.prev (drop l.x-index l.v));
  stored : sets l.initial.out 0 (plain_of l.mark l.v) ≡ sets l.out l.n (plain_from l.mark l.prev (drop l.x-index l.v));
}
