-- What a lent output has after a tree or a loose header was to be written to it. Assumes nothing.
use Rattle.std.specs.Prelude.{ℕ, List, length}
use Rattle.ground.specs.Verdict.{stored}
use Rattle.ground.specs.declared.Answer.{Answer}
use Rattle.entry.specs.Record.{records_of}
use Rattle.tree_write.specs.Write.{written, tree_answer}
use Rattle.loose_header.specs.Header.{loose_header, header_answer}

-- the tree that records name: the answer, and the output
abbrev pub tree_answered : ℕ → List ℕ → List ℕ → List ℕ → Answer
tree_answered h bytes records out = tree_answer h bytes records (length out)

abbrev pub tree_output : ℕ → List ℕ → List ℕ → List ℕ → List ℕ
tree_output h bytes records out = stored (tree_answered h bytes records out).verdict (written h bytes (records_of records)) out

-- the header of a loose object: the answer, and the output
abbrev pub header_answered : ℕ → ℕ → List ℕ → Answer
header_answered kind size out = header_answer kind size (length out)

abbrev pub header_output : ℕ → ℕ → List ℕ → List ℕ
header_output kind size out = stored (header_answered kind size out).verdict (loose_header kind size) out
