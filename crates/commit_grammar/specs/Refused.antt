-- Commits that are refused, in the grammar's words: the first field that is missing or malformed, and how many bytes stand before it
-- (docs/FORMAT.md, "Commits" and "Numbers"). `proofs/Refused.antt` proves it. Assumes nothing.
use Rattle.std.specs.Prelude.{ℕ, ◌+◌, ◌/◌, ◌<◌, max, ◌≡◌, true, List, [], ◌∷◌, ◌++◌, ◌⊎◌, ◌↔◌, length, get_or, Ok}
use Rattle.ground.specs.Scan.{free_of}
use Rattle.ground.specs.Verdict.{gate_of}
use Rattle.actor.specs.Form.{ActorForm}
use Rattle.header.specs.Words.{tree_word, parent_word, author_word, committer_word}
use Rattle.header.specs.Record.{width}
use Rattle.commit_fields.specs.Fields.{refusal}
use Rattle.commit_read.specs.Read.{refused_read, commit_answer}
use Rattle.grammar.specs.Grammar.{
  Header,
  Encoding,
  Commit,
  line,
  parents_bytes,
  encoding_bytes,
  header_bytes,
  headers_bytes,
  commit_bytes,
  HexForm,
  HexForms,
  folded_lines,
  OneLines,
  EncodingForm,
  HeaderForm,
  HeaderForms,
  FirstForm,
  CommitForm,
}

-- ---- what does not stand at the front of some bytes

-- no line of this word with an id
abbrev pub NoIdLine : List ℕ → ℕ → List ℕ → Type 0
NoIdLine word h b = (id r : List ℕ) → HexForm h id → b ≡ line word id ++ r → ⊥

-- no line of this word
abbrev pub NoLine : List ℕ → List ℕ → Type 0
NoLine word b = (value r : List ℕ) → free_of 10 value ≡ true → b ≡ line word value ++ r → ⊥

-- no extra header
abbrev pub NoHeader : List ℕ → Type 0
NoHeader b = (x : Header) (r : List ℕ) → HeaderForm x → b ≡ header_bytes x ++ r → ⊥

-- a line of this word, whose value has not the actor form
pub record BadActor (word b : List ℕ) : Type 0 where
  pub value : List ℕ
  pub rest : List ℕ
  pub one_line : free_of 10 value ≡ true
  pub whole : b ≡ line word value ++ rest
  pub formless : ActorForm value → ⊥

-- one or more lines that start with a space, each with its LF, and then no such line
pub record FoldsOn (b : List ℕ) : Type 0 where
  pub more : List (List ℕ)
  pub rest : List ℕ
  pub some : 0 < length more
  pub one_lines : OneLines more
  pub whole : b ≡ folded_lines more ++ rest
  pub ends : get_or rest 0 0 ≡ 32 → ⊥

-- a header has taken all that folds it: on one line it is not followed by lines that do, and folded by none that starts with a space
abbrev pub Taken : Header → List ℕ → Type 0
Taken x r = ((x.mark ≡ 0) × (FoldsOn r → ⊥)) ⊎ ((x.mark ≡ 1) × (get_or r 0 0 ≡ 32 → ⊥))

-- each of some headers has
abbrev pub EachTaken : List Header → List ℕ → Type 0
EachTaken [] r = Unit {0}
EachTaken (x ∷ xs) r = Taken x (headers_bytes xs ++ r) × EachTaken xs r

-- ---- how far the bytes s are a commit, k bytes in all, and what follows

-- a tree line and the longest run of parent lines
pub record AfterParents (h : ℕ) (s : List ℕ) (k : ℕ) (r : List ℕ) : Type 0 where
  pub tree : List ℕ
  pub parents : List (List ℕ)
  pub tree_form : HexForm h tree
  pub parents_form : HexForms h parents
  pub whole : s ≡ (line tree_word tree ++ parents_bytes parents) ++ r
  pub bytes : length (line tree_word tree ++ parents_bytes parents) ≡ k
  pub longest : NoIdLine parent_word h r

-- these, and an author's line
pub record AfterAuthor (h : ℕ) (s : List ℕ) (k : ℕ) (r : List ℕ) : Type 0 where
  pub start : ℕ
  pub author : List ℕ
  pub before : AfterParents h s start (line author_word author ++ r)
  pub form : ActorForm author
  pub bytes : start + length (line author_word author) ≡ k

-- these, and a committer's line
pub record AfterCommitter (h : ℕ) (s : List ℕ) (k : ℕ) (r : List ℕ) : Type 0 where
  pub start : ℕ
  pub committer : List ℕ
  pub before : AfterAuthor h s start (line committer_word committer ++ r)
  pub form : ActorForm committer
  pub bytes : start + length (line committer_word committer) ≡ k

-- these, an encoding or none, and the longest run of extra headers
pub record AfterHeaders (h : ℕ) (s : List ℕ) (k : ℕ) (r : List ℕ) : Type 0 where
  pub start : ℕ
  pub encoding : Encoding
  pub headers : List Header
  pub before : AfterCommitter h s start (encoding_bytes encoding ++ (headers_bytes headers ++ r))
  pub encoding_form : EncodingForm encoding
  pub headers_form : HeaderForms headers
  pub first : FirstForm encoding headers
  pub taken : EachTaken headers r
  pub longest : NoHeader r
  pub bytes : start + length (encoding_bytes encoding) + length (headers_bytes headers) ≡ k

-- ---- the refusals

-- the call begins: its id length is one of the two, and what was lent is within the bounds
abbrev pub Begins : List ℕ → ℕ → List ℕ → List ℕ → Type 0
Begins s h ps hs = gate_of h (length s) (max (length ps) (length hs / width)) ≡ Ok tt

-- it is refused with this number, place and field
abbrev pub Refuses : List ℕ → ℕ → List ℕ → List ℕ → ℕ → ℕ → ℕ → Type 0
Refuses s h ps hs number place field = commit_answer s h ps hs ≡ refused_read (refusal number place field)

pub record RefusedCommits : Type 0 where
  -- 11 with field 1: at 0, exactly where no tree line stands there
  pub no_tree : (s : List ℕ) (h : ℕ) (ps hs : List ℕ) (k : ℕ) → Begins s h ps hs → Refuses s h ps hs 11 k 1 ↔ ((k ≡ 0) × NoIdLine tree_word h s)
  -- 11 with field 2: exactly where a tree line and all parent lines stand before, and then no author's line
  pub no_author : (s : List ℕ) (h : ℕ) (ps hs : List ℕ) (k : ℕ) → Begins s h ps hs
      → Refuses s h ps hs 11 k 2 ↔ ((r : List ℕ) × AfterParents h s k r × NoLine author_word r)
  -- 11 with field 3: exactly where an author's line of the form stands before too, and then no committer's line
  pub no_committer : (s : List ℕ) (h : ℕ) (ps hs : List ℕ) (k : ℕ) → Begins s h ps hs
      → Refuses s h ps hs 11 k 3 ↔ ((r : List ℕ) × AfterAuthor h s k r × NoLine committer_word r)
  -- 12: exactly where the author's line is there, or after a good one the committer's, and its value has not the actor form
  pub bad_actor : (s : List ℕ) (h : ℕ) (ps hs : List ℕ) (k : ℕ) → Begins s h ps hs
      → Refuses s h ps hs 12 k 0
      ↔ (((r : List ℕ) × AfterParents h s k r × BadActor author_word r) ⊎ ((r : List ℕ) × AfterAuthor h s k r × BadActor committer_word r))
  -- 11 with field 4: exactly where an encoding or none and all extra headers stand before too, and then no LF
  pub no_blank : (s : List ℕ) (h : ℕ) (ps hs : List ℕ) (k : ℕ) → Begins s h ps hs
      → Refuses s h ps hs 11 k 4 ↔ ((r : List ℕ) × AfterHeaders h s k r × (get_or r 0 0 ≡ 10 → ⊥))
  -- it is so, at some place, exactly where all four lines are good and the bytes are no commit
  pub no_commit : (s : List ℕ) (h : ℕ) (ps hs : List ℕ) → Begins s h ps hs
      → ((k : ℕ) × Refuses s h ps hs 11 k 4)
      ↔ (((k : ℕ) × (r : List ℕ) × AfterCommitter h s k r) × ((c : Commit) → CommitForm h c → s ≡ commit_bytes c → ⊥))
