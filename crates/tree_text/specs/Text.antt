-- A listing as text, as `git ls-tree -z` prints it and `git mktree -z` takes it (docs/FORMAT.md, "Text"). Assumes nothing.
use Rattle.std.specs.Prelude.{ℕ, ◌-◌, List, [], ◌∷◌, ◌++◌, eqb, length, replicate}
use Rattle.ground.specs.Basics.{pick, ascii}
use Rattle.mode.specs.Mode.{sort_of, is_tree}
use Rattle.mode.specs.Write.{six_digits}
use Rattle.entry.specs.Entry.{Entry}
use Rattle.hex_of_id.specs.Hex.{hex_of}
use Rattle.tree_text.specs.declared.Front.{Front}

-- the word of a mode's sort: a folder is a tree, a submodule a commit, and a file, executable or not, or a link a blob
unfoldable pub sort_word : ℕ → List ℕ
sort_word m = pick (is_tree m) (ascii "tree") (pick (eqb (sort_of m) 0o160000) (ascii "commit") (ascii "blob"))

-- what stands before the id: six octal digits, space, word, space
unfoldable pub front_text : ℕ → List ℕ
front_text m = six_digits m ++ 32 ∷ (sort_word m ++ 32 ∷ [])

-- the same laid into fourteen bytes, with 0 behind it, and its length
unfoldable pub front_of : ℕ → Front
front_of m = record { bytes = front_text m ++ replicate (14 - length (front_text m)) 0; len = length (front_text m) }

-- the record of an entry: that, the id in lower-case hex, tab, name, NUL
unfoldable pub record_text : Entry → List ℕ
record_text e = front_text e.mode ++ (hex_of e.id ++ 9 ∷ []) ++ (e.name ++ 0 ∷ [])

-- a listing as text: its entries' records one after the other
unfoldable pub as_text : List Entry → List ℕ
as_text [] = []
as_text (e ∷ es) = record_text e ++ as_text es
