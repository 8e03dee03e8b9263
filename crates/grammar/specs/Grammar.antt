-- A commit by its fields, its bytes, and which fields may stand (docs/FORMAT.md, "Commits"). Assumes nothing.
use Rattle.std.specs.Prelude.{ℕ, ◌*◌, ◌<◌, ◌≡◌, true, List, [], ◌∷◌, ◌++◌, ◌⊎◌, length, eqb}
use Rattle.ground.specs.Basics.{pick}
use Rattle.ground.specs.Scan.{free_of}
use Rattle.actor.specs.Form.{ActorForm}
use Rattle.hex_digits.specs.Hex.{is_hex}
use Rattle.header.specs.Words.{tree_word, parent_word, author_word, committer_word, encoding_word}

-- an extra header: its name, its value as it stands (a folded one with its spaces and its last LF), and the mark, 1 for folded
pub record Header : Type 0 where
  pub name : List ℕ
  pub value : List ℕ
  pub mark : ℕ

-- the encoding's value, which may be empty, or that there is none
pub data Encoding : Type 0 where
  absent : Encoding
  given : List ℕ → Encoding

-- the ids as hex digits
pub record Commit : Type 0 where
  pub tree : List ℕ
  pub parents : List (List ℕ)
  pub author : List ℕ
  pub committer : List ℕ
  pub encoding : Encoding
  pub headers : List Header
  pub message : List ℕ

-- ---- the bytes

-- a word, a space, a value, LF
abbrev pub line : List ℕ → List ℕ → List ℕ
line word value = word ++ 32 ∷ (value ++ 10 ∷ [])

unfoldable pub parents_bytes : List (List ℕ) → List ℕ
parents_bytes [] = []
parents_bytes (d ∷ ds) = line parent_word d ++ parents_bytes ds

unfoldable pub encoding_bytes : Encoding → List ℕ
encoding_bytes absent = []
encoding_bytes (given v) = line encoding_word v

-- LF, but for a folded value, which has its own
abbrev pub last_lf : ℕ → List ℕ
last_lf mark = pick (eqb mark 1) [] (10 ∷ [])

-- name, space, value, LF
abbrev pub header_bytes : Header → List ℕ
header_bytes x = x.name ++ 32 ∷ (x.value ++ last_lf x.mark)

unfoldable pub headers_bytes : List Header → List ℕ
headers_bytes [] = []
headers_bytes (x ∷ xs) = header_bytes x ++ headers_bytes xs

-- tree, parents, author, committer, encoding, extra headers, a blank line, the message
unfoldable pub commit_bytes : Commit → List ℕ
commit_bytes c =
    line tree_word c.tree
    ++ (parents_bytes c.parents
    ++ (line author_word c.author
    ++ (line committer_word c.committer
    ++ (encoding_bytes c.encoding
    ++ (headers_bytes c.headers
    ++ 10 ∷ c.message)))))

-- ---- which fields may stand

-- an id: 2H hex digits of either case
pub record HexForm (h : ℕ) (d : List ℕ) : Type 0 where
  pub long : length d ≡ 2 * h
  pub hex : is_hex d ≡ true

abbrev pub HexForms : ℕ → List (List ℕ) → Type 0
HexForms h [] = Unit {0}
HexForms h (d ∷ ds) = HexForm h d × HexForms h ds

-- lines that start with a space, each with its LF
unfoldable pub folded_lines : List (List ℕ) → List ℕ
folded_lines [] = []
folded_lines (l ∷ ls) = 32 ∷ (l ++ 10 ∷ folded_lines ls)

-- the same lines without their spaces
unfoldable pub plain_lines : List (List ℕ) → List ℕ
plain_lines [] = []
plain_lines (l ∷ ls) = l ++ 10 ∷ plain_lines ls

abbrev pub OneLines : List (List ℕ) → Type 0
OneLines [] = Unit {0}
OneLines (l ∷ ls) = (free_of 10 l ≡ true) × OneLines ls

-- a folded value: a first line, and one or more lines that start with a space
pub record FoldedForm (v : List ℕ) : Type 0 where
  pub first : List ℕ
  pub more : List (List ℕ)
  pub whole : v ≡ first ++ 10 ∷ folded_lines more
  pub one_line : free_of 10 first ≡ true
  pub one_lines : OneLines more
  pub some : 0 < length more

-- a header: a name of one or more bytes without space and LF; a value on one line, or a folded one
pub record HeaderForm (x : Header) : Type 0 where
  pub some : 0 < length x.name
  pub no_space : free_of 32 x.name ≡ true
  pub no_lf : free_of 10 x.name ≡ true
  pub valued : ((x.mark ≡ 0) × (free_of 10 x.value ≡ true)) ⊎ ((x.mark ≡ 1) × FoldedForm x.value)

abbrev pub HeaderForms : List Header → Type 0
HeaderForms [] = Unit {0}
HeaderForms (x ∷ xs) = HeaderForm x × HeaderForms xs

-- the encoding is one line
abbrev pub EncodingForm : Encoding → Type 0
EncodingForm absent = Unit {0}
EncodingForm (given v) = free_of 10 v ≡ true

-- without an encoding, the first extra header is not called `encoding`: it would be the encoding
abbrev pub FirstForm : Encoding → List Header → Type 0
FirstForm absent [] = Unit {0}
FirstForm absent (x ∷ xs) = x.name ≡ encoding_word → ⊥
FirstForm (given v) xs = Unit {0}

-- a commit for ids of H bytes
pub record CommitForm (h : ℕ) (c : Commit) : Type 0 where
  pub tree : HexForm h c.tree
  pub parents : HexForms h c.parents
  pub author : ActorForm c.author
  pub committer : ActorForm c.committer
  pub encoding : EncodingForm c.encoding
  pub headers : HeaderForms c.headers
  pub first : FirstForm c.encoding c.headers
