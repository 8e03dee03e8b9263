-- The words that begin the lines of a commit (docs/FORMAT.md, "Commits"). Assumes nothing.
use Rattle.std.specs.Prelude.{ℕ, List}
use Rattle.ground.specs.Basics.{ascii}

abbrev pub tree_word : List ℕ
tree_word = ascii "tree"

abbrev pub parent_word : List ℕ
parent_word = ascii "parent"

abbrev pub author_word : List ℕ
author_word = ascii "author"

abbrev pub committer_word : List ℕ
committer_word = ascii "committer"

abbrev pub encoding_word : List ℕ
encoding_word = ascii "encoding"
