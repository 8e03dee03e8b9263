-- The first demand of the calls on commits: which numbers and places they give, and that a refusal leaves what was lent (docs/FORMAT.md, "Numbers").
-- Assumes nothing.
use Rattle.std.specs.Prelude.{[], ◌∷◌}
use Rattle.call.specs.Call.{EachOnce, Keeps}
use Rattle.commit_calls.specs.Calls as a

-- commits: a header's value, a commit read, and the leaves of both
pub record OfCommits : Type 3 where
  pub unfold_value : Keeps a.unfold_value (0 ∷ 2 ∷ 8 ∷ 10 ∷ [])
  pub read_commit : Keeps a.read_commit (0 ∷ 1 ∷ 2 ∷ 4 ∷ 11 ∷ 12 ∷ [])
  pub put_header : Keeps a.put_header (0 ∷ [])
  pub put_byte : Keeps a.put_byte (0 ∷ [])
  pub put_value : Keeps a.put_value (0 ∷ [])
  pub commit_questions : EachOnce a.commit_questions

-- a commit written, its size, and the check before both
pub record OfCommitWriting : Type 3 where
  pub check_commit : Keeps a.check_commit (0 ∷ 1 ∷ 2 ∷ 10 ∷ [])
  pub commit_size : Keeps a.commit_size (0 ∷ 1 ∷ 2 ∷ 10 ∷ [])
  pub write_commit : Keeps a.write_commit (0 ∷ 1 ∷ 2 ∷ 8 ∷ 10 ∷ 13 ∷ 14 ∷ [])
