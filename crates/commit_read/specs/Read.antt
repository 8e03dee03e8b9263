-- Reading a commit into lent lists: the answer, and the lists afterwards (docs/FORMAT.md, "Commits" and "Numbers"). Assumes nothing.
use Rattle.std.specs.Prelude.{ℕ, ◌+◌, ◌*◌, ◌/◌, List, ◌++◌, length, drop, Err, Ok, Result}
use Rattle.ground.specs.Verdict.{fine}
use Rattle.header.specs.Record.{width}
use Rattle.header.specs.declared.CommitParts.{CommitParts}
use Rattle.commit_fields.specs.Parents.{parent_starts}
use Rattle.commit_fields.specs.Headers.{heads, records_of, flats}
use Rattle.commit_fields.specs.Outcome.{outcome_of}
use Rattle.commit_fields.specs.declared.Refusal.{Refusal}
use Rattle.commit_fields.specs.declared.Found.{Found}
use Rattle.commit_read.specs.declared.CommitRead.{CommitRead}

abbrev pub no_parts : CommitParts
no_parts =
    record {
      tree = 0;
      author_start = 0;
      author_end = 0;
      committer_start = 0;
      committer_end = 0;
      encoding = 0;
      encoding_start = 0;
      encoding_end = 0;
      message_start = 0;
      message_end = 0;
    }

-- a refusal, and what was found, as answers
abbrev pub refused_read : Refusal → CommitRead
refused_read r = record { verdict = r.verdict; field = r.field; parents = 0; headers = 0; parts = no_parts }

abbrev pub done_read : Found → CommitRead
done_read f = record { verdict = fine; field = 0; parents = f.parents; headers = f.headers; parts = f.parts }

unfoldable pub answer_in : Result Found Refusal → CommitRead
answer_in (Err r) = refused_read r
answer_in (Ok f) = done_read f

-- the lent parents afterwards: where each one's hex digits start, the rest as it was
unfoldable pub parents_in : ℕ → List ℕ → Result Found Refusal → List ℕ
parents_in h l (Err r) = l
parents_in h l (Ok f) = parent_starts f.parents h (6 + 2 * h) ++ drop f.parents l

-- the lent headers afterwards: the records, the rest as it was
unfoldable pub headers_in : List ℕ → List ℕ → Result Found Refusal → List ℕ
headers_in s l (Err r) = l
headers_in s l (Ok f) = flats (records_of (heads s f.first)) ++ drop (f.headers * width) l

-- the three that the call promises
abbrev pub commit_outcome : List ℕ → ℕ → List ℕ → List ℕ → Result Found Refusal
commit_outcome s h ps hs = outcome_of s h (length ps) (length hs / width)

abbrev pub commit_answer : List ℕ → ℕ → List ℕ → List ℕ → CommitRead
commit_answer s h ps hs = answer_in (commit_outcome s h ps hs)

abbrev pub commit_parents : List ℕ → ℕ → List ℕ → List ℕ → List ℕ
commit_parents s h ps hs = parents_in h ps (commit_outcome s h ps hs)

abbrev pub commit_headers : List ℕ → ℕ → List ℕ → List ℕ → List ℕ
commit_headers s h ps hs = headers_in s hs (commit_outcome s h ps hs)
