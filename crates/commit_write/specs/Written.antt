-- The bytes of a commit as it is written (docs/FORMAT.md, "Commit writing"). Assumes nothing.
use Rattle.std.specs.Prelude.{ℕ, List, [], ◌∷◌, ◌++◌, map, eqb}
use Rattle.ground.specs.Basics.{pick}
unfoldable pub use Rattle.hex_digits.specs.Hex.{lower_digit}
pub use Rattle.hex_digits.specs.Hex.{lower_hex}
use Rattle.header.specs.Words.{tree_word, author_word, committer_word}
use Rattle.grammar.specs.Grammar.{Header, Commit, line, parents_bytes, encoding_bytes}
use Rattle.commit_value.specs.Fold.{fold_value}

-- name, space, value: a folded one as it stands
unfoldable pub header_written : Header → List ℕ
header_written x = x.name ++ 32 ∷ pick (eqb x.mark 1) x.value (fold_value x.value)

unfoldable pub headers_written : List Header → List ℕ
headers_written [] = []
headers_written (x ∷ xs) = header_written x ++ headers_written xs

-- tree, parents, author, committer, encoding, extra headers, a blank line, the message
unfoldable pub commit_written : Commit → List ℕ
commit_written c =
    line tree_word (lower_hex c.tree)
    ++ (parents_bytes (map lower_hex c.parents)
    ++ (line author_word c.author
    ++ (line committer_word c.committer
    ++ (encoding_bytes c.encoding
    ++ (headers_written c.headers
    ++ (10 ∷ c.message))))))
