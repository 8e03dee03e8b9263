-- What writing a commit answers, and its size asked alone (docs/FORMAT.md, "Commit writing"). Assumes nothing.
use Rattle.std.specs.Prelude.{ℕ, ◌&&◌, not, List, eqb, length}
use Rattle.ground.specs.Basics.{pick, part}
use Rattle.ground.specs.Verdict.{verdict, counted, refused}
use Rattle.ground.specs.declared.Answer.{Answer}
use Rattle.output.specs.Output.{fitted}
use Rattle.header.specs.declared.CommitParts.{CommitParts}
use Rattle.grammar.specs.Grammar.{Encoding, absent, given, Commit}
use Rattle.grammar.specs.Named.{commit_of}
use Rattle.commit_check.specs.Check.{headers_of, checked}
unfoldable pub use Rattle.commit_value.specs.Encoding.{encoding_refusal}
use Rattle.commit_write.specs.Written.{commit_written}

-- the commit that the parts and the lent lists name
abbrev pub commit_named : ℕ → List ℕ → CommitParts → List ℕ → List ℕ → Commit
commit_named h bytes p parents headers = commit_of h bytes p parents (headers_of headers)

-- its encoding
abbrev pub encoding_named : List ℕ → CommitParts → Encoding
encoding_named bytes p = pick (eqb p.encoding 1) (given (part p.encoding_start p.encoding_end bytes)) absent

-- its bytes
abbrev pub parts_written : ℕ → List ℕ → CommitParts → List ℕ → List ℕ → List ℕ
parts_written h bytes p parents headers = commit_written (commit_named h bytes p parents headers)

-- 1, 2, 10, or the length of what is written
unfoldable pub measured : ℕ → List ℕ → CommitParts → List ℕ → List ℕ → ℕ → Answer
measured h bytes p parents headers room =
    pick (eqb (checked h bytes p parents headers room).number 0)
    (counted (length (parts_written h bytes p parents headers)))
    (refused (checked h bytes p parents headers room))

-- an answer that is done is refused where the encoding is
unfoldable pub encoded : Encoding → Answer → Answer
encoded e a = pick (eqb a.verdict.number 0 && not (eqb (encoding_refusal e) 0)) (refused (verdict (encoding_refusal e) 0)) a

-- the size: 1, 2, 10
abbrev pub commit_size : ℕ → List ℕ → CommitParts → List ℕ → List ℕ → Answer
commit_size h bytes p parents headers = measured h bytes p parents headers 0

-- writing into so much room: 1, 2, 10, then 13, 14, then 8
unfoldable pub commit_answer : ℕ → List ℕ → CommitParts → List ℕ → List ℕ → ℕ → Answer
commit_answer h bytes p parents headers room = fitted room (encoded (encoding_named bytes p) (measured h bytes p parents headers room))
