-- How an answer lies in the numbers that a caller lends (include/sarpukten.h): the verdict's number, place and part, then the rest. Assumes nothing.
use Rattle.std.specs.Prelude.{ℕ, Bool, cond, List, [], ◌∷◌, ◌++◌}
use Rattle.ground.specs.declared.Verdict.{Verdict}
use Rattle.ground.specs.declared.Answer.{Answer}

-- 1 for yes, 0 for no
abbrev pub yes : Bool → ℕ
yes b = cond b 1 0

-- number, place, part
abbrev pub verdict_numbers : Verdict → List ℕ
verdict_numbers v = v.number ∷ v.place ∷ v.part ∷ []

-- the verdict, count
abbrev pub answer_numbers : Answer → List ℕ
answer_numbers a = verdict_numbers a.verdict ++ a.count ∷ []
