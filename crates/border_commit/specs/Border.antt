-- How a commit's answer lies in the numbers that a caller lends. Assumes nothing.
use Rattle.std.specs.Prelude.{ℕ, List, [], ◌∷◌, ◌++◌}
use Rattle.header.specs.declared.CommitParts.{CommitParts}
use Rattle.commit_read.specs.declared.CommitRead.{CommitRead}
use Rattle.border.specs.Border.{verdict_numbers}

-- the ten numbers of a commit's parts
abbrev pub parts_numbers : CommitParts → List ℕ
parts_numbers p =
    p.tree
    ∷ p.author_start
    ∷ p.author_end
    ∷ p.committer_start
    ∷ p.committer_end
    ∷ p.encoding
    ∷ p.encoding_start
    ∷ p.encoding_end
    ∷ p.message_start
    ∷ p.message_end
    ∷ []

-- the verdict, field, how many parents, how many headers, and the parts
abbrev pub commit_numbers : CommitRead → List ℕ
commit_numbers c = verdict_numbers c.verdict ++ c.field ∷ c.parents ∷ c.headers ∷ parts_numbers c.parts
