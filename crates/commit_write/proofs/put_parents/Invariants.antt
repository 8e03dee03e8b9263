-- `commit_write::put_parents` meets its contract. Assumes nothing.
use Rattle.std.proofs.Common.{◌≡◌, ◌+◌, ◌-◌, ◌*◌, ◌≤◌, length, drop}
use mathlib.Core.List.{map}
use Rattle.grammar.specs.Grammar.{parents_bytes}
use Rattle.grammar.specs.Named.{id_named}
use Rattle.commit_check.specs.Check.{id_fits, passing}
use Rattle.commit_write.specs.Written.{lower_hex}
use Rattle.commit_write.proofs.Laws.{Left}
use Rattle.commit_write.proofs.put_parents.Given as goal

abbrev pub invariant-loop-from : goal.invariant-loop-from
invariant-loop-from l = record {
  passes : passing (map (id_fits l.h l.bytes) (drop l.from-index l.parents)) ≡ length l.parents - l.from-index;
  room : l.to + (length l.parents - l.from-index) * 72 ≤ l.at + length l.parents * 72;
  left : Left l.initial.out l.at (parents_bytes (map lower_hex (map (id_named l.h l.bytes) l.parents))) l.out l.to
      (parents_bytes (map lower_hex (map (id_named l.h l.bytes) (drop l.from-index l.parents))));
}
