-- A commit whose parts a caller says in ten numbers, as reading a commit hands them over: its size, and what is written of it. Assumes nothing.
use Rattle.std.specs.Prelude.{ℕ, List, length, get_or}
use Rattle.ground.specs.Verdict.{stored}
use Rattle.ground.specs.declared.Answer.{Answer}
use Rattle.header.specs.declared.CommitParts.{CommitParts}
use Rattle.commit_write.specs.Write.{commit_size, commit_answer, parts_written}

-- the parts that ten numbers say
abbrev pub parts_of : List ℕ → CommitParts
parts_of l =
    record {
      tree = get_or l 0 0;
      author_start = get_or l 1 0;
      author_end = get_or l 2 0;
      committer_start = get_or l 3 0;
      committer_end = get_or l 4 0;
      encoding = get_or l 5 0;
      encoding_start = get_or l 6 0;
      encoding_end = get_or l 7 0;
      message_start = get_or l 8 0;
      message_end = get_or l 9 0;
    }

abbrev pub size_said : ℕ → List ℕ → List ℕ → List ℕ → List ℕ → Answer
size_said h bytes parts parents headers = commit_size h bytes (parts_of parts) parents headers

abbrev pub answer_said : ℕ → List ℕ → List ℕ → List ℕ → List ℕ → List ℕ → Answer
answer_said h bytes parts parents headers out = commit_answer h bytes (parts_of parts) parents headers (length out)

-- the output afterwards
abbrev pub output_said : ℕ → List ℕ → List ℕ → List ℕ → List ℕ → List ℕ → List ℕ
output_said h bytes parts parents headers out =
    stored (answer_said h bytes parts parents headers out).verdict (parts_written h bytes (parts_of parts) parents headers) out
