-- The places that come with the numbers (docs/FORMAT.md, "Numbers"): inside the object, at a record, or more than was lent. Assumes nothing.
use Rattle.std.specs.Prelude.{ℕ, ◌<◌, ◌≡◌, true, List, [], ◌∷◌}
use Rattle.ground.specs.declared.Verdict.{Verdict}
use Rattle.call.specs.Call.{among}

-- with one of these numbers the place is below so many
abbrev pub Below : List ℕ → ℕ → Verdict → Type 0
Below numbers most v = among v.number numbers ≡ true → v.place < most

-- with one of these numbers the place is more than so many
abbrev pub Over : List ℕ → ℕ → Verdict → Type 0
Over numbers lent v = among v.number numbers ≡ true → lent < v.place

-- the numbers that point at an entry's first byte, and those that point at a record
abbrev pub at_entry : List ℕ
at_entry = 3 ∷ 5 ∷ 6 ∷ 7 ∷ 17 ∷ 18 ∷ []

abbrev pub at_record : List ℕ
at_record = 9 ∷ 10 ∷ []
