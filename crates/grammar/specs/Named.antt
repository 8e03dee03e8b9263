-- The commit that ranges of bytes and records name (docs/FORMAT.md, "Commits"). Assumes nothing.
use Rattle.std.specs.Prelude.{ℕ, zero, suc, ◌+◌, ◌*◌, List, [], ◌∷◌, map, eqb}
use Rattle.ground.specs.Basics.{pick, part}
use Rattle.header.specs.Record.{header_at, name_of, header_value}
use Rattle.header.specs.declared.HeaderRecord.{HeaderRecord}
use Rattle.header.specs.declared.CommitParts.{CommitParts}
use Rattle.grammar.specs.Grammar.{Header, absent, given, Commit}

-- the id whose hex digits start at a place
abbrev pub id_named : ℕ → List ℕ → ℕ → List ℕ
id_named h s at = part at (at + 2 * h) s

-- the header that a record names
abbrev pub header_named : List ℕ → HeaderRecord → Header
header_named s x = record { name = name_of s x; value = header_value s x; mark = x.mark }

-- n records from record i on
unfoldable pub records_from : ℕ → ℕ → List ℕ → List HeaderRecord
records_from i zero l = []
records_from i (suc n) l = header_at l i ∷ records_from (i + 1) n l

-- the commit of some parts, parents' starts and records
abbrev pub commit_of : ℕ → List ℕ → CommitParts → List ℕ → List HeaderRecord → Commit
commit_of h s p starts records =
    record {
      tree = id_named h s p.tree;
      parents = map (id_named h s) starts;
      author = part p.author_start p.author_end s;
      committer = part p.committer_start p.committer_end s;
      encoding = pick (eqb p.encoding 1) (given (part p.encoding_start p.encoding_end s)) absent;
      headers = map (header_named s) records;
      message = part p.message_start p.message_end s;
    }
