-- `component::is_path` meets its contract. Assumes nothing.
use Prim.Native.Nat.{◌≤◌}
use mathlib.Core.Path.{◌≡◌}
use lib.ListN.{length, drop}
use Rattle.component.specs.Component.{is_path, pieces}
use Rattle.component.proofs.Laws.{rest_good}
use Rattle.component.proofs.is_path.Given as goal

abbrev pub invariant-loop : goal.invariant-loop
invariant-loop l = record {
  within : l.at ≤ length l.path;
  rest : is_path (pieces l.path) ≡ rest_good l.counter (pieces (drop l.at l.path));
}
