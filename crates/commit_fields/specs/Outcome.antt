-- All that reading a commit decides, before anything is stored (docs/FORMAT.md, "Commits" and "Numbers"). Assumes nothing.
use Rattle.std.specs.Prelude.{ℕ, max, List, length, leb, Err, Ok, Result, ⊤}
use Rattle.ground.specs.Basics.{pick}
use Rattle.ground.specs.Verdict.{gate_of}
use Rattle.commit_fields.specs.Fields.{refusal, fields_of}
use Rattle.commit_fields.specs.declared.Found.{Found}
use Rattle.commit_fields.specs.declared.Refusal.{Refusal}
use Rattle.ground.specs.declared.Verdict.{Verdict}

-- 4 where too few parents are lent, then where too few headers are
unfoldable pub room_of : ℕ → ℕ → Result Found Refusal → Result Found Refusal
room_of np nh (Err r) = Err r
room_of np nh (Ok f) =
    pick (leb f.parents np) (pick (leb f.headers nh) (Ok f) (Err (refusal 4 f.headers 0))) (Err (refusal 4 f.parents 0))

-- 1 and 2 come before all else
unfoldable pub gated_by : Result ⊤ Verdict → Result Found Refusal → Result Found Refusal
gated_by (Ok tt) o = o
gated_by (Err v) o = Err (record { verdict = v; field = 0 })

-- all that reading decides, with room for np parents and nh headers
unfoldable pub outcome_of : List ℕ → ℕ → ℕ → ℕ → Result Found Refusal
outcome_of s h np nh = gated_by (gate_of h (length s) (max np nh)) (room_of np nh (fields_of s h))
