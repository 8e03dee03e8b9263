-- Whether a call with a rule set may begin (docs/FORMAT.md, "Bounds" and "Strict reading"). Assumes nothing.
use Rattle.std.specs.Prelude.{ℕ, Err, Result, ⊤}
use Rattle.ground.specs.Basics.{pick}
use Rattle.ground.specs.Verdict.{verdict, id_length, is_set, size_gate}
use Rattle.ground.specs.declared.Verdict.{Verdict}

-- 1 where the id length is neither of the two, then 19 for another rule set, then 2
unfoldable pub rule_gate : ℕ → ℕ → ℕ → ℕ → Result ⊤ Verdict
rule_gate k h bytes records = pick (id_length h) (pick (is_set k) (size_gate bytes records) (Err (verdict 19 0))) (Err (verdict 1 0))
