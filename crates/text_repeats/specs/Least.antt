-- The least element of a list that has the name and sort of the one before it, and the verdict by it. Assumes nothing.
use Rattle.std.specs.Prelude.{ℕ, ◌/◌, ◌%◌, min, Bool, ◌&&◌, List, [], ◌∷◌, eqb, ltb}
use Rattle.ground.specs.Basics.{pick}
use Rattle.ground.specs.Scan.{same_bytes}
use Rattle.ground.specs.Verdict.{verdict, fine}
use Rattle.ground.specs.declared.Verdict.{Verdict}
use Rattle.keys.specs.Key.{name_at}

-- two elements of a text have one name and one sort
unfoldable pub same_record : List ℕ → ℕ → ℕ → Bool
same_record text x y = eqb (x % 2) (y % 2) && same_bytes (name_at text 9 0 x) (name_at text 9 0 y)

-- the smaller of a number and the second of two elements, where they are the same by a test
unfoldable pub least_of : (ℕ → ℕ → Bool) → ℕ → ℕ → ℕ → ℕ
least_of same x y least = pick (same x y) (min least y) least

-- the smaller of a number and the least element that is the same as the one before it
unfoldable pub least_next : (ℕ → ℕ → Bool) → List ℕ → ℕ → ℕ
least_next same [] least = least
least_next same (x ∷ []) least = least
least_next same (x ∷ y ∷ l) least = least_next same (y ∷ l) (least_of same x y least)

-- 7 by the least element that repeats a name and a sort, then 17 by the least that repeats a name; 2 ^ 32 says that there is none
unfoldable pub told : ℕ → ℕ → Verdict
told order name = pick (ltb order 4294967296) (verdict 7 (order / 2)) (pick (ltb name 4294967296) (verdict 17 (name / 2)) fine)
