-- The answers of the edits, by the output that is lent. Assumes nothing.
use Rattle.std.specs.Prelude.{ℕ, List, length}
use Rattle.ground.specs.declared.Answer.{Answer}
use Rattle.entry.specs.Entry.{Entry}
use Rattle.edit.specs.Edit.{put_answer, remove_answer}

-- a name put
abbrev pub put_answered : ℕ → ℕ → List ℕ → Entry → List ℕ → Answer
put_answered k h s new out = put_answer k h s new (length out)

-- a name removed
abbrev pub remove_answered : ℕ → ℕ → List ℕ → List ℕ → List ℕ → Answer
remove_answered k h s name out = remove_answer k h s name (length out)
