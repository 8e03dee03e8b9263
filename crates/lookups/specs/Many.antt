-- Many lookups in one call: the single call's answers in a row (docs/FORMAT.md, "Many lookups"). Assumes nothing.
use Rattle.std.specs.Prelude.{ℕ, ◌+◌, ◌/◌, max, Bool, ◌&&◌, List, [], ◌∷◌, ◌++◌, eqb, leb, length, Err, Ok, Result, ⊤}
use Rattle.ground.specs.Basics.{pick, part}
use Rattle.ground.specs.Verdict.{verdict, fine, counted, refused, gate_of, stored}
use Rattle.ground.specs.declared.Verdict.{Verdict}
use Rattle.ground.specs.declared.Answer.{Answer}
use Rattle.output.specs.Output.{gated}
use Rattle.entry.specs.Record.{records_of}
use Rattle.lookup.specs.Halving.{declined}
use Rattle.lookup.specs.Lookup.{lookup_in}
use Rattle.lookup.specs.declared.Looked.{Looked}
use Rattle.lookups.specs.declared.Sought.{Sought}

-- the numbers of a sought name, and those of a stored answer
abbrev pub width : ℕ
width = 3

-- how many of them lie in so many numbers: a rest too short is none
abbrev pub many : ℕ → ℕ
many numbers = numbers / width

-- what stands for a name that is not there
abbrev pub no_sought : Sought
no_sought = record { start = 0; end = 0; mark = 0 }

-- the sought names in flat numbers
unfoldable pub sought_of : List ℕ → List Sought
sought_of [] = []
sought_of (s ∷ []) = []
sought_of (s ∷ e ∷ []) = []
sought_of (s ∷ e ∷ m ∷ rest) = record { start = s; end = e; mark = m } ∷ sought_of rest

-- it does not end before it starts, it lies inside, and the mark is 0 or 1
unfoldable pub well_sought : ℕ → Sought → Bool
well_sought len q = leb q.start q.end && (leb q.end len && leb q.mark 1)

-- what the single call gives for the bytes of a name and its sort
abbrev pub single : ℕ → List ℕ → List ℕ → List ℕ → Sought → Looked
single h object records names q = lookup_in h object (records_of records) (part q.start q.end names) (eqb q.mark 1)

-- the answer for one name: what the single call gives, or 10
unfoldable pub one_answer : ℕ → List ℕ → List ℕ → List ℕ → Sought → Looked
one_answer h object records names q = pick (well_sought (length names) q) (single h object records names q) (declined (verdict 10 0))

-- the verdict on names from index i on, where f answers one: 10 with the index of the first that met one
unfoldable pub first_bad : (Sought → Looked) → ℕ → List Sought → Verdict
first_bad f i [] = fine
first_bad f i (q ∷ qs) = pick (eqb (f q).verdict.number 10) (verdict 10 i) (first_bad f (i + 1) qs)

-- an answer as it is stored: 0 or 15, the index, the count of comparisons
abbrev pub kept : Looked → List ℕ
kept a = a.verdict.number ∷ a.index ∷ a.compared ∷ []

-- the answers for all names, in their order
unfoldable pub all_kept : (Sought → Looked) → List Sought → List ℕ
all_kept f [] = []
all_kept f (q ∷ qs) = kept (f q) ++ all_kept f qs

-- the number of names, unless a name is refused
abbrev pub unless_bad : Verdict → ℕ → Answer
unless_bad v n = pick (eqb v.number 0) (counted n) (refused v)

-- where a call may begin, 4 with the number of names if there is room for fewer answers
abbrev pub and_room : ℕ → ℕ → Result ⊤ Verdict → Result ⊤ Verdict
and_room n room (Ok tt) = pick (leb n room) (Ok tt) (Err (verdict 4 n))
and_room n room (Err v) = Err v

-- 1, 2 for the longest bytes and the longest of three lists, then 4
unfoldable pub first_gate : ℕ → ℕ → ℕ → ℕ → ℕ → Result ⊤ Verdict
first_gate h bytes records n room = and_room n room (gate_of h bytes (max records (max n room)))

-- the whole: 1, 2, 4, then 10
unfoldable pub many_answer : ℕ → List ℕ → List ℕ → List ℕ → List ℕ → ℕ → Answer
many_answer h object records names sought numbers =
    gated (first_gate h (max (length object) (length names)) (length (records_of records)) (many (length sought)) (many numbers))
    (unless_bad (first_bad (one_answer h object records names) 0 (sought_of sought)) (many (length sought)))

-- the lent answers after the call: where it is done, the answers for all names from the front on, and else as they were
abbrev pub answers_after : ℕ → List ℕ → List ℕ → List ℕ → List ℕ → List ℕ → List ℕ
answers_after h object records names sought lent =
    stored (many_answer h object records names sought (length lent)).verdict (all_kept (one_answer h object records names) (sought_of sought)) lent
