-- The header of a loose object (docs/FORMAT.md, "Loose headers"). Assumes nothing.
use Rattle.std.specs.Prelude.{ℕ, zero, suc, ◌+◌, ◌-◌, ◌/◌, ◌%◌, ◌&&◌, List, [], ◌∷◌, ◌++◌, leb, ltb, length, get_or, replicate}
use Rattle.ground.specs.Basics.{pick, ascii}
use Rattle.ground.specs.Verdict.{verdict, counted, refused}
use Rattle.ground.specs.declared.Answer.{Answer}
use Rattle.output.specs.Output.{fitted}
use Rattle.loose_header.specs.declared.Decimal.{Decimal}

-- the kinds are 1 commit, 2 tree, 3 blob, 4 tag; another number has no word
unfoldable pub kind_word : ℕ → List ℕ
kind_word kind = get_or ([] ∷ ascii "commit" ∷ ascii "tree" ∷ ascii "blob" ∷ ascii "tag" ∷ []) kind []

-- the decimal digits of a number: those of its tenth part, then the last one; at most as many as the first argument says
unfoldable pub digits : ℕ → ℕ → List ℕ
digits zero n = []
digits (suc k) n = pick (ltb n 10) ((48 + n) ∷ []) (digits k (n / 10) ++ (48 + n % 10) ∷ [])

-- a number of 64 bits has at most 20 digits
unfoldable pub decimal : ℕ → List ℕ
decimal n = digits 20 n

-- its digits at the end of twenty bytes, with 0 before them, and where they begin
abbrev pub decimal_text : ℕ → Decimal
decimal_text n = record { text = replicate (20 - length (decimal n)) 0 ++ decimal n; at = 20 - length (decimal n) }

-- kind word, space, size, NUL
unfoldable pub loose_header : ℕ → ℕ → List ℕ
loose_header kind size = kind_word kind ++ 32 ∷ (decimal size ++ 0 ∷ [])

-- 23 for a number that is no kind; then 8 with the bytes needed
unfoldable pub header_answer : ℕ → ℕ → ℕ → Answer
header_answer kind size room =
    pick (leb 1 kind && leb kind 4) (fitted room (counted (length (loose_header kind size)))) (refused (verdict 23 0))
