-- What is claimed of reading and the grammar (`proofs/Theorems.antt` and `proofs/Unfolded.antt` prove it). Assumes nothing.
use Rattle.std.specs.Prelude.{ℕ, ◌/◌, ◌≤◌, ◌≡◌, true, List, ◌∷◌, ◌++◌, ◌⊎◌, ◌↔◌, length}
use Rattle.ground.specs.Verdict.{fine, most_bytes, most_records}
use Rattle.extra_header.specs.Extra.{folded_form}
use Rattle.header.specs.Record.{width}
use Rattle.unfold.specs.Unfold.{plain_of}
use Rattle.grammar.specs.Grammar.{Commit, commit_bytes, plain_lines, FoldedForm, CommitForm}
use Rattle.commit_read.specs.Read.{commit_answer, commit_parents, commit_headers}
use Rattle.commit_grammar.specs.Named.{named}

-- an accepted commit is a commit by the grammar, and the bytes are its bytes
abbrev pub ReadIsCommit : Type 0
ReadIsCommit =
    (s : List ℕ) (h : ℕ) (ps hs : List ℕ) → (commit_answer s h ps hs).verdict ≡ fine
    → (s ≡ commit_bytes (named h s (commit_answer s h ps hs) (commit_parents s h ps hs) (commit_headers s h ps hs)))
    × CommitForm h (named h s (commit_answer s h ps hs) (commit_parents s h ps hs) (commit_headers s h ps hs))

-- a commit by the grammar, within the bounds and with room for its parents and headers, is accepted, and what is named is that commit
abbrev pub CommitIsRead : Type 0
CommitIsRead =
    (h : ℕ) (c : Commit) (ps hs : List ℕ) → CommitForm h c → (h ≡ 20) ⊎ (h ≡ 32) → length (commit_bytes c) ≤ most_bytes
    → length ps ≤ most_records → length hs / width ≤ most_records → length c.parents ≤ length ps → length c.headers ≤ length hs / width
    → ((commit_answer (commit_bytes c) h ps hs).verdict ≡ fine)
    × ((commit_answer (commit_bytes c) h ps hs).parents ≡ length c.parents)
    × ((commit_answer (commit_bytes c) h ps hs).headers ≡ length c.headers)
    × (named h (commit_bytes c) (commit_answer (commit_bytes c) h ps hs) (commit_parents (commit_bytes c) h ps hs) (commit_headers (commit_bytes c) h ps hs) ≡ c)

-- the test for a folded value and the folded form are one
abbrev pub FoldedExactly : Type 0
FoldedExactly = (v : List ℕ) → (folded_form v ≡ true) ↔ FoldedForm v

-- a folded value unfolds to its lines, one space less for each but the first, the last LF kept
abbrev pub UnfoldsToLines : Type 0
UnfoldsToLines = (v : List ℕ) (f : FoldedForm v) → plain_of 1 v ≡ f.first ++ 10 ∷ plain_lines f.more
