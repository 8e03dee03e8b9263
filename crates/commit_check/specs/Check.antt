-- Which records of a commit that is to be written pass, and the refusals 1, 2 and 10 (docs/FORMAT.md, "Commit writing"). Assumes nothing.
use Rattle.std.specs.Prelude.{ℕ, suc, ◌+◌, ◌*◌, ◌/◌, max, Bool, true, false, ◌&&◌, ◌||◌, List, [], ◌∷◌, ◌++◌, map, eqb, leb, length, Err, Ok, Result, ⊤}
use Rattle.ground.specs.Basics.{pick}
use Rattle.ground.specs.Verdict.{verdict, fine, gate_of}
use Rattle.ground.specs.declared.Verdict.{Verdict}
use Rattle.hex_digits.specs.Hex.{is_hex}
use Rattle.header.specs.Record.{width, well_formed, header_value}
use Rattle.header.specs.declared.HeaderRecord.{HeaderRecord}
use Rattle.header.specs.declared.CommitParts.{CommitParts}
use Rattle.unfold.specs.Unfold.{has_form}
use Rattle.grammar.specs.Named.{id_named, records_from}

-- the header records of a lent list
abbrev pub headers_of : List ℕ → List HeaderRecord
headers_of l = records_from 0 (length l / width) l

-- a range runs forward inside so many bytes
unfoldable pub ranged : ℕ → ℕ → ℕ → Bool
ranged from to len = leb from to && leb to len

-- 2H hex digits of either case start at a place
unfoldable pub id_fits : ℕ → List ℕ → ℕ → Bool
id_fits h bytes at = leb (at + 2 * h) (length bytes) && is_hex (id_named h bytes at)

-- the encoding's mark is 0, or it is 1 and its range is one
unfoldable pub encoding_fits : ℕ → CommitParts → Bool
encoding_fits len p = eqb p.encoding 0 || (eqb p.encoding 1 && ranged p.encoding_start p.encoding_end len)

-- a header's record is well formed, and its value has the form that the mark says
unfoldable pub header_fits : List ℕ → HeaderRecord → Bool
header_fits bytes x = well_formed x (length bytes) && has_form x.mark (header_value bytes x)

-- the records in turn, each with whether it passes: tree, parents, author, committer, encoding, headers, message
abbrev pub last_tests : List ℕ → CommitParts → List HeaderRecord → List Bool
last_tests bytes p headers =
    encoding_fits (length bytes) p ∷ (map (header_fits bytes) headers ++ ranged p.message_start p.message_end (length bytes) ∷ [])

abbrev pub late_tests : List ℕ → CommitParts → List HeaderRecord → List Bool
late_tests bytes p headers =
    ranged p.author_start p.author_end (length bytes)
    ∷ ranged p.committer_start p.committer_end (length bytes)
    ∷ last_tests bytes p headers

abbrev pub tests : ℕ → List ℕ → CommitParts → List ℕ → List HeaderRecord → List Bool
tests h bytes p parents headers = id_fits h bytes p.tree ∷ (map (id_fits h bytes) parents ++ late_tests bytes p headers)

-- how many pass before the first that does not
abbrev pub passing : List Bool → ℕ
passing [] = 0
passing (true ∷ l) = suc (passing l)
passing (false ∷ l) = 0

-- 10 at the index of the first that does not pass
unfoldable pub judged : List Bool → Verdict
judged l = pick (eqb (passing l) (length l)) fine (verdict 10 (passing l))

-- what a gate refuses, else another verdict
unfoldable pub after : Result ⊤ Verdict → Verdict → Verdict
after (Ok tt) v = v
after (Err u) v = u

-- 1, 2, then 10: what writing into so much room and measuring (with no room) refuse alike
unfoldable pub checked : ℕ → List ℕ → CommitParts → List ℕ → List ℕ → ℕ → Verdict
checked h bytes p parents headers room =
    after (gate_of h (max (length bytes) room) (max (length parents) (length headers / width))) (judged (tests h bytes p parents (headers_of headers)))
