-- Many lookups in one call, over every outcome that the contract of `bisect_entries` allows, and over those of the single call. `proofs/Many.antt` proves it.
-- Assumes nothing.
use Rattle.std.specs.Prelude.{ℕ, ◌*◌, ◌<◌, ◌≡◌, List, ◌⊎◌, eqb, length, take, drop}
use Rattle.ground.specs.Basics.{part}
use Rattle.ground.specs.Verdict.{verdict, counted, refused}
use Rattle.lookups.specs.Many.{width, many, one_answer, kept}
use Rattle.lookups.specs.Demand.{name_at}
use Rattle.lookups.specs.declared.Sought.{Sought}
use Rattle.call.specs.Call.{Input, Outcome, Meets}
use Rattle.tree_calls.specs.Calls.{bisect_entry, bisect_entries}

-- how many names a call is lent, and name j of them
abbrev pub names : Input bisect_entries.call → ℕ
names i = many (length i.args.1.1.1.1.0.now)

abbrev pub asked : Input bisect_entries.call → ℕ → Sought
asked i j = name_at i.args.1.1.1.1.0.now j

-- the lent answers after the call, and before it
abbrev pub after : (i : Input bisect_entries.call) → Outcome bisect_entries.call i → List ℕ
after i o = o.last.1.1.1.1.1.0.now

abbrev pub before : Input bisect_entries.call → List ℕ
before i = i.args.1.1.1.1.1.0.now

-- a single call asks for name j: in the same object, with the same H and records, its bytes and its sort
pub record Asks (i : Input bisect_entries.call) (j : ℕ) (s : Input bisect_entry.call) : Type 0 where
  pub object : s.args.0.now ≡ i.args.0.now
  pub h : s.args.1.0 ≡ i.args.1.0
  pub records : s.args.1.1.0.now ≡ i.args.1.1.0.now
  pub name : s.args.1.1.1.0.now ≡ part (asked i j).start (asked i j).end i.args.1.1.1.0.now
  pub sort : s.args.1.1.1.1.0 ≡ eqb (asked i j).mark 1

-- name j meets a 10: by its own range or mark, or by a record that its search meets
abbrev pub Meets10 : Input bisect_entries.call → ℕ → Type 0
Meets10 i j = (one_answer i.args.1.0 i.args.0.now i.args.1.1.0.now i.args.1.1.1.0.now (asked i j)).verdict.number ≡ 10

pub record ManyLookups : Type 0 where
  -- a call that is done has counted the names; and whatever the single call answers for a name, found or not there, stands in its place with its count
  pub each_single : (i : Input bisect_entries.call) (o : Outcome bisect_entries.call i) → Meets bisect_entries.call i o
      → (n : ℕ) → o.answer ≡ counted n
      → (n ≡ names i)
      × ((j : ℕ) → j < n → (s : Input bisect_entry.call) → Asks i j s → (r : Outcome bisect_entry.call s) → Meets bisect_entry.call s r
      → (take width (drop (j * width) (after i o)) ≡ kept r.answer) × ((r.answer.verdict.number ≡ 0) ⊎ (r.answer.verdict.number ≡ 15)))
  -- a 10 gives the first name that met one, and nothing is stored
  pub first_met : (i : Input bisect_entries.call) (o : Outcome bisect_entries.call i) → Meets bisect_entries.call i o
      → (j : ℕ) → o.answer ≡ refused (verdict 10 j)
      → (j < names i) × Meets10 i j × ((k : ℕ) → k < j → Meets10 i k → ⊥) × (after i o ≡ before i)
