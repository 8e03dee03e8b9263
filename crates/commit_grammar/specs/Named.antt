-- The commit that the ranges of an answer and the lent lists name (docs/FORMAT.md, "Commits"). Assumes nothing.
use Rattle.std.specs.Prelude.{ℕ, List, take}
use Rattle.grammar.specs.Grammar.{Commit}
use Rattle.grammar.specs.Named.{records_from, commit_of}
use Rattle.commit_read.specs.declared.CommitRead.{CommitRead}

-- what an answer names, with the parents and headers that were stored
abbrev pub named : ℕ → List ℕ → CommitRead → List ℕ → List ℕ → Commit
named h s r ps hs = commit_of h s r.parts (take r.parents ps) (records_from 0 r.headers hs)
