-- What is claimed of commits that are read and written (`proofs/` proves it). Assumes nothing.
use Rattle.std.specs.Prelude.{ℕ, ◌*◌, ◌/◌, ◌<◌, ◌≤◌, ◌≡◌, true, List, [], ◌∷◌, ◌++◌, ◌⊎◌, length, take}
use Rattle.ground.specs.Scan.{free_of}
use Rattle.ground.specs.Verdict.{fine, counted, most_bytes, most_records}
use Rattle.header.specs.Record.{width}
use Rattle.unfold.specs.Unfold.{plain_of}
use Rattle.grammar.specs.Grammar.{given, Commit, commit_bytes, plain_lines, folded_lines, OneLines, FoldedForm, CommitForm}
use Rattle.commit_read.specs.Read.{commit_answer, commit_parents, commit_headers}
use Rattle.commit_grammar.specs.Named.{named}
use Rattle.commit_value.specs.Fold.{fold_value}
use Rattle.commit_write.specs.Written.{lower_hex, commit_written}
use Rattle.commit_write.specs.Write as write
use Rattle.commit_round.specs.Round.{commit_back, WritableCommit, LowerIds}

-- of the lent lists, what reading stored: the parents' starts and the headers' records
abbrev pub parents_front : List ℕ → ℕ → List ℕ → List ℕ → List ℕ
parents_front s h ps hs = take (commit_answer s h ps hs).parents (commit_parents s h ps hs)

abbrev pub headers_front : List ℕ → ℕ → List ℕ → List ℕ → List ℕ
headers_front s h ps hs = take ((commit_answer s h ps hs).headers * width) (commit_headers s h ps hs)

-- within the bounds and with room for its parents and headers, what was written is accepted, and what is named is the commit read back
abbrev pub ReadsBack : Type 0
ReadsBack =
    (h : ℕ) (c : Commit) (ps hs : List ℕ) → WritableCommit h c → (h ≡ 20) ⊎ (h ≡ 32) → length (commit_written c) ≤ most_bytes
    → length ps ≤ most_records → length hs / width ≤ most_records → length c.parents ≤ length ps → length c.headers ≤ length hs / width
    → ((commit_answer (commit_written c) h ps hs).verdict ≡ fine)
    × (named h (commit_written c) (commit_answer (commit_written c) h ps hs) (commit_parents (commit_written c) h ps hs)
    (commit_headers (commit_written c) h ps hs) ≡ commit_back c)

-- an accepted commit whose ids are in lower case and whose encoding is not empty, handed over with the answer's parts and the fronts of the
-- lent lists, is written as itself wherever it has room
abbrev pub AcceptedRewrites : Type 0
AcceptedRewrites =
    (s : List ℕ) (h : ℕ) (ps hs : List ℕ) (v : (commit_answer s h ps hs).verdict ≡ fine) (room : ℕ) → length s ≤ room → room ≤ most_bytes
    → (c : Commit) → c ≡ named h s (commit_answer s h ps hs) (commit_parents s h ps hs) (commit_headers s h ps hs)
    → lower_hex c.tree ≡ c.tree → LowerIds c.parents → (c.encoding ≡ given [] → ⊥)
    → (write.commit_answer h s (commit_answer s h ps hs).parts (parents_front s h ps hs) (headers_front s h ps hs) room ≡ counted (length s))
    × (write.parts_written h s (commit_answer s h ps hs).parts (parents_front s h ps hs) (headers_front s h ps hs) ≡ s)

-- with two lines or more, what is written of a value has the folded form, and unfolds to the value
abbrev pub FoldUnfolds : Type 0
FoldUnfolds =
    (first : List ℕ) (more : List (List ℕ)) → free_of 10 first ≡ true → OneLines more → 0 < length more
    → FoldedForm (fold_value (first ++ 10 ∷ plain_lines more))
    × (plain_of 1 (fold_value (first ++ 10 ∷ plain_lines more)) ≡ first ++ 10 ∷ plain_lines more)

-- a folded value is written as it stands, which is what unfolding and folding it gives
abbrev pub UnfoldedFolds : Type 0
UnfoldedFolds = (v : List ℕ) → FoldedForm v → fold_value (plain_of 1 v) ≡ v

-- a value of one line without an LF gets one
abbrev pub FoldLine : Type 0
FoldLine = (v : List ℕ) → free_of 10 v ≡ true → fold_value v ≡ v ++ 10 ∷ []

-- a value of lines, each with its LF: a space before each but the first; one line stays as it is
abbrev pub FoldLines : Type 0
FoldLines =
    (first : List ℕ) (more : List (List ℕ)) → free_of 10 first ≡ true → OneLines more
    → fold_value (first ++ 10 ∷ plain_lines more) ≡ first ++ 10 ∷ folded_lines more

-- the last byte of a value, prev where it is empty
abbrev pub last_of : ℕ → List ℕ → ℕ
last_of prev [] = prev
last_of prev (b ∷ bs) = last_of b bs

-- a value that does not end with an LF is written as if it did
abbrev pub FoldGains : Type 0
FoldGains = (v : List ℕ) → (last_of 0 v ≡ 10 → ⊥) → fold_value v ≡ fold_value (v ++ 10 ∷ [])

-- a commit that may be written is written as the bytes of the commit read back
abbrev pub WrittenBack : Type 0
WrittenBack = (h : ℕ) (c : Commit) → WritableCommit h c → commit_written c ≡ commit_bytes (commit_back c)

-- a commit of the grammar with its ids in lower case is written as its own bytes
abbrev pub Rewrites : Type 0
Rewrites = (h : ℕ) (c : Commit) → CommitForm h c → lower_hex c.tree ≡ c.tree → LowerIds c.parents → commit_written c ≡ commit_bytes c

-- what was read and named, with its ids in lower case, is written as the bytes it was read from
abbrev pub ReadRewrites : Type 0
ReadRewrites =
    (s : List ℕ) (h : ℕ) (ps hs : List ℕ) → (commit_answer s h ps hs).verdict ≡ fine
    → (c : Commit) → c ≡ named h s (commit_answer s h ps hs) (commit_parents s h ps hs) (commit_headers s h ps hs)
    → lower_hex c.tree ≡ c.tree → LowerIds c.parents → commit_written c ≡ s
