-- What is read back of a commit that was written, and which commits may be written so that all of it is (docs/FORMAT.md, "Commit writing").
-- Assumes nothing.
use Rattle.std.specs.Prelude.{ℕ, ◌<◌, ◌≡◌, Bool, true, false, List, [], ◌∷◌, map, ◌⊎◌, length, take, eqb}
use Rattle.ground.specs.Basics.{pick}
use Rattle.ground.specs.Scan.{count_to, free_of}
use Rattle.actor.specs.Form.{ActorForm}
use Rattle.grammar.specs.Grammar.{Header, Commit, HexForm, HexForms, FoldedForm, EncodingForm, FirstForm}
use Rattle.commit_value.specs.Fold.{fold_value}
use Rattle.commit_write.specs.Written.{lower_hex}

-- there are bytes
abbrev pub some : List ℕ → Bool
some [] = false
some (b ∷ bs) = true

-- a value has an LF with bytes after it
unfoldable pub several_lines : List ℕ → Bool
several_lines [] = false
several_lines (b ∷ bs) = pick (eqb b 10) (some bs) (several_lines bs)

-- a header as it is read back: a value of several lines comes back folded, one of a single line without its LF
unfoldable pub header_back : Header → Header
header_back x =
    pick (eqb x.mark 1) x
    (pick (several_lines x.value)
    (record { name = x.name; value = fold_value x.value; mark = 1 })
    (record { name = x.name; value = take (count_to 10 x.value) x.value; mark = 0 }))

-- a commit as it is read back: the ids in lower case
abbrev pub commit_back : Commit → Commit
commit_back c =
    record {
      tree = lower_hex c.tree;
      parents = map lower_hex c.parents;
      author = c.author;
      committer = c.committer;
      encoding = c.encoding;
      headers = map header_back c.headers;
      message = c.message;
    }

-- a header that may be written: a name of one or more bytes without space and LF; any value with mark 0, a folded one with mark 1
pub record Writable (x : Header) : Type 0 where
  pub named : 0 < length x.name
  pub no_space : free_of 32 x.name ≡ true
  pub no_lf : free_of 10 x.name ≡ true
  pub valued : (x.mark ≡ 0) ⊎ ((x.mark ≡ 1) × FoldedForm x.value)

abbrev pub Writables : List Header → Type 0
Writables [] = Unit {0}
Writables (x ∷ xs) = Writable x × Writables xs

-- a commit that may be written, for ids of H bytes
pub record WritableCommit (h : ℕ) (c : Commit) : Type 0 where
  pub tree : HexForm h c.tree
  pub parents : HexForms h c.parents
  pub author : ActorForm c.author
  pub committer : ActorForm c.committer
  pub encoding : EncodingForm c.encoding
  pub headers : Writables c.headers
  pub first : FirstForm c.encoding c.headers

-- all ids are in lower case
abbrev pub LowerIds : List (List ℕ) → Type 0
LowerIds [] = Unit {0}
LowerIds (d ∷ ds) = (lower_hex d ≡ d) × LowerIds ds
