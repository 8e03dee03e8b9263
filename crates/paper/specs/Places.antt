-- The places that come with the numbers (docs/FORMAT.md, "Numbers"), over every run of the calls that give them. `proofs/Places.antt` proves it.
-- Assumes nothing.
use Rattle.std.specs.Prelude.{◌≡◌}
use Rattle.call.specs.Call.{Run}
use Rattle.tree_calls.specs.Places.{TreePlaces}
use Rattle.commit_calls.specs.Places.{CommitPlaces}
use Rattle.paper.specs.Calls as a

pub record Places : Type 2 where
  -- the 3 of a mode text alone, and whatever else refuses one, is at 0
  pub from_bytes : (c : Run (a.from_bytes).call) → c.came.answer.verdict.place ≡ 0
  -- those of trees and of commits
  pub of_trees : TreePlaces
  pub of_commits : CommitPlaces
