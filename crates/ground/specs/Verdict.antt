-- The numbers' carrier, and the one decision on refusals 1 and 2 (docs/FORMAT.md, "Numbers" and "Bounds").
-- Assumes nothing.
use Rattle.std.specs.Prelude.{ℕ, Bool, ◌&&◌, ◌||◌, List, ◌++◌, eqb, leb, length, drop, Err, Ok, Result, ⊤}
use Rattle.ground.specs.Basics.{pick}
use Rattle.ground.specs.declared.Verdict.{Verdict}
use Rattle.ground.specs.declared.Answer.{Answer}

-- a number of the table and its place
abbrev pub verdict : ℕ → ℕ → Verdict
verdict n p = record { number = n; place = p; part = 0 }

-- number 3 at a place, with the part of the entry that cannot be read: 1 the mode, 2 the NUL after it, 3 the id
abbrev pub broken : ℕ → ℕ → Verdict
broken p part = record { number = 3; place = p; part = part }

-- one of the three parts
abbrev pub is_part : ℕ → Bool
is_part k = eqb k 1 || (eqb k 2 || eqb k 3)

-- number 0, place 0
abbrev pub fine : Verdict
fine = verdict 0 0

-- a call that was done, with what it counted
abbrev pub counted : ℕ → Answer
counted n = record { verdict = fine; count = n }

-- a call that was refused: it counts nothing
abbrev pub refused : Verdict → Answer
refused v = record { verdict = v; count = 0 }

-- the most bytes of a lent buffer, and the most records of a lent list
abbrev pub most_bytes : ℕ
most_bytes = 1073741824

abbrev pub most_records : ℕ
most_records = 1048576

-- an id has 20 bytes or 32
unfoldable pub id_length : ℕ → Bool
id_length h = eqb h 20 || eqb h 32

-- there are two rule sets
unfoldable pub is_set : ℕ → Bool
is_set k = eqb k 1 || eqb k 2

-- 2 where a buffer or a list is over its bound
unfoldable pub size_gate : ℕ → ℕ → Result ⊤ Verdict
size_gate bytes records = pick (leb bytes most_bytes && leb records most_records) (Ok tt) (Err (verdict 2 0))

-- 1 where the id length is neither of the two, then 2
unfoldable pub gate_of : ℕ → ℕ → ℕ → Result ⊤ Verdict
gate_of h bytes records = pick (id_length h) (size_gate bytes records) (Err (verdict 1 0))

-- the verdict that a gate stands for: an open one is done
abbrev pub gate_verdict : Result ⊤ Verdict → Verdict
gate_verdict (Ok tt) = fine
gate_verdict (Err v) = v

-- what a lent buffer or list holds after a call with this verdict that writes l at its front: past l it stays, and after a refusal all of it stays
unfoldable pub stored : Verdict → List ℕ → List ℕ → List ℕ
stored v l lent = pick (eqb v.number 0) (l ++ drop (length l) lent) lent
