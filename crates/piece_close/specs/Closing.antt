-- An entry that is finished, where the next byte has a place. Assumes nothing.
use Rattle.std.specs.Prelude.{ℕ, zero, suc, ◌+◌, List, ltb, replicate, Err, Ok, Result}
use Rattle.ground.specs.Basics.{pick}
use Rattle.ground.specs.Verdict.{verdict, most_records}
use Rattle.arriving.specs.Feed.{refuse, placing}
use Rattle.arriving.specs.declared.Line.{Line}
use Rattle.arriving.specs.declared.Phase.TheVariants.{Head}
use Rattle.arriving.specs.declared.Marks.{Marks}
use Rattle.doubles.specs.declared.Misplaced.{Misplaced}
use Rattle.doubles.specs.declared.Misplaced.TheVariants.{Double, NotAfter}

-- the next entry begins there, with so many names open
abbrev pub next_at : Marks → ℕ → Line → ℕ → Marks
next_at m at l ended =
    record {
      verdict = m.verdict;
      h = m.h;
      rules = m.rules;
      at = at;
      first = at;
      count = pick (ltb m.count most_records) (m.count + 1) m.count;
      last = record { size = l.size; folder = l.folder };
      ended = ended;
      head = replicate 8 0;
      phase = Head 0;
    }

-- 17 for a name that was there before
unfoldable pub placed_by : Marks → ℕ → Line → Result ℕ Misplaced → Marks
placed_by m at l (Ok n) = next_at m at l n
placed_by m at l (Err Double) = refuse m (verdict 17 m.first)
placed_by m at l (Err NotAfter) = refuse m (verdict 7 m.first)

-- of which the rules say so: refused, or it is placed among the open names
unfoldable pub closed_at : List ℕ → Marks → ℕ → Line → ℕ → Marks
closed_at ends m at l (suc n) = refuse m (verdict (suc n) m.first)
closed_at ends m at l zero = placed_by m at l (placing ends m l)
