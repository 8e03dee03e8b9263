-- The extra headers from a place on: a list that ends with the place after them (docs/FORMAT.md, "Commits"). Assumes nothing.
use Rattle.std.specs.Prelude.{ℕ, zero, suc, ◌+◌, ◌-◌, List, [], ◌∷◌, ◌++◌, length, None, Some}
use Rattle.extra_header.specs.Extra.{extra_at}
use Rattle.header.specs.Record.{flat}
use Rattle.header.specs.declared.HeaderRecord.{HeaderRecord}
use Rattle.commit_fields.specs.declared.HeaderCount.{HeaderCount}

pub data Heads : Type 0 where
  ended : ℕ → Heads
  header : HeaderRecord → Heads → Heads

-- one after another, at most `left`
unfoldable pub heads_from : ℕ → List ℕ → ℕ → Heads
heads_from zero s at = ended at
heads_from (suc left) s at = elim (extra_at s at) [ None ↦ ended at | Some (x, next) ↦ header x (heads_from left s next) ]

-- those that follow where n are read: no more than there are bytes can come
unfoldable pub rest_heads : List ℕ → ℕ → ℕ → Heads
rest_heads s at n = heads_from (length s - n) s at

abbrev pub heads : List ℕ → ℕ → Heads
heads s at = rest_heads s at 0

-- how many there are, n counted already, and the place after them
unfoldable pub tally : ℕ → Heads → HeaderCount
tally n (ended at) = record { count = n; end = at }
tally n (header x l) = tally (n + 1) l

-- their records, and these as flat numbers
unfoldable pub records_of : Heads → List HeaderRecord
records_of (ended at) = []
records_of (header x l) = x ∷ records_of l

unfoldable pub flats : List HeaderRecord → List ℕ
flats [] = []
flats (x ∷ l) = flat x ++ flats l
