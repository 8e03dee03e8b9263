-- The halving of docs/FORMAT.md, "Lookup", over any way to say how record i compares. Assumes nothing.
use Rattle.std.specs.Prelude.{ℕ, zero, suc, ◌+◌, ◌-◌, ◌/◌, ltb}
use Rattle.std.specs.Int.Count.{count_leading_zeros}
use Rattle.ground.specs.Basics.{pick}
use Rattle.ground.specs.Verdict.{verdict, fine}
use Rattle.ground.specs.declared.Verdict.{Verdict}
use Rattle.lookup.specs.declared.Ended.{Ended}
use Rattle.lookup.specs.declared.Ended.TheVariants.{Found, Bad, Absent}
use Rattle.lookup.specs.declared.Looked.{Looked}
use Rattle.std.specs.declared.cmp.Ordering.{Ordering}
use Rattle.std.specs.declared.cmp.Ordering.TheVariants.{Equal, Greater, Less}

-- what comparing a record gives: it is not well formed, or it stands so to the name sought
pub data Met : Type 0 where
  bad : Met
  met : Ordering → Met

-- the answers: found at an index, not there, refused; c records were compared
abbrev pub found : ℕ → ℕ → Looked
found i c = record { verdict = fine; index = i; compared = c }

abbrev pub absent : ℕ → Looked
absent c = record { verdict = verdict 15 0; index = 0; compared = c }

abbrev pub declined : Verdict → Looked
declined v = record { verdict = v; index = 0; compared = 0 }

-- what is answered to a search that ended so
abbrev pub told_of : Ended → Looked
told_of (Found i c) = found i c
told_of (Bad i) = declined (verdict 10 i)
told_of (Absent c) = absent c

-- the record to compare between low and high
unfoldable pub mid : ℕ → ℕ → ℕ
mid low high = low + (high - low) / 2

-- how the search goes on after record m was met, c records having been compared before it
abbrev pub turn : Met → (ℕ → ℕ → ℕ → Looked) → ℕ → ℕ → ℕ → ℕ → Looked
turn bad again low high m c = declined (verdict 10 m)
turn (met Less) again low high m c = again (m + 1) high (c + 1)
turn (met Equal) again low high m c = found m (c + 1)
turn (met Greater) again low high m c = again low m (c + 1)

-- at most as many turns as the first number says
unfoldable pub halving : (ℕ → Met) → ℕ → ℕ → ℕ → ℕ → Looked
halving f zero low high c = absent c
halving f (suc k) low high c = pick (ltb low high) (turn (f (mid low high)) (halving f k) low high (mid low high) c) (absent c)

-- the search between low and high, c records having been compared; the distance falls in each turn, so it is turns enough
unfoldable pub search_from : (ℕ → Met) → ℕ → ℕ → ℕ → Looked
search_from f low high c = halving f (high - low) low high c

-- how many binary digits a number of 64 bits has
unfoldable pub most_comparisons : ℕ → ℕ
most_comparisons n = 64 - count_leading_zeros 64 n
