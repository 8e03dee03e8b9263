-- A header's value, unfolded (docs/FORMAT.md, "Commits" and "Numbers"). Assumes nothing.
use Rattle.std.specs.Prelude.{ℕ, max, Bool, ◌&&◌, ◌||◌, not, List, [], ◌∷◌, ◌++◌, length, drop, eqb, leb, Err, Ok, Result, ⊤}
use Rattle.ground.specs.Basics.{pick}
use Rattle.ground.specs.Verdict.{verdict, counted, refused, size_gate}
use Rattle.ground.specs.declared.Verdict.{Verdict}
use Rattle.ground.specs.declared.Answer.{Answer}
use Rattle.extra_header.specs.Extra.{folded_form}
use Rattle.header.specs.Record.{well_formed, header_value}
use Rattle.header.specs.declared.HeaderRecord.{HeaderRecord}

-- a value with mark 1 is folded
unfoldable pub has_form : ℕ → List ℕ → Bool
has_form mark v = not (eqb mark 1) || folded_form v

-- in a folded value the byte after each LF is left out
abbrev pub skips : ℕ → ℕ → Bool
skips mark prev = eqb mark 1 && eqb prev 10

-- the rest of a value, prev the byte before it
unfoldable pub plain_from : ℕ → ℕ → List ℕ → List ℕ
plain_from mark prev [] = []
plain_from mark prev (x ∷ xs) = pick (skips mark prev) (plain_from mark x xs) (x ∷ plain_from mark x xs)

-- a whole value
unfoldable pub plain_of : ℕ → List ℕ → List ℕ
plain_of mark v = plain_from mark 0 v

-- what a call comes to: it stores a value, or it refuses
pub data Plan : Type 0 where
  stores : List ℕ → Plan
  refuses : Verdict → Plan

-- 8 with the bytes needed where the lent bytes are too few
unfoldable pub room_plan : List ℕ → ℕ → Plan
room_plan v room = pick (leb (length v) room) (stores v) (refuses (verdict 8 (length v)))

-- 10 for a record that is not well formed or a value without the form of its mark, then 8
unfoldable pub value_plan : List ℕ → HeaderRecord → ℕ → Plan
value_plan s x room =
    pick (well_formed x (length s) && has_form x.mark (header_value s x)) (room_plan (plain_of x.mark (header_value s x)) room) (refuses (verdict 10 0))

-- 2 before all else
unfoldable pub gate_plan : Result ⊤ Verdict → Plan → Plan
gate_plan (Ok tt) p = p
gate_plan (Err v) p = refuses v

unfoldable pub unfold_plan : List ℕ → HeaderRecord → ℕ → Plan
unfold_plan s x room = gate_plan (size_gate (max (length s) room) 0) (value_plan s x room)

-- the answer, and the lent bytes afterwards
unfoldable pub answer_of : Plan → Answer
answer_of (stores v) = counted (length v)
answer_of (refuses r) = refused r

unfoldable pub after_of : List ℕ → Plan → List ℕ
after_of out (stores v) = v ++ drop (length v) out
after_of out (refuses r) = out

abbrev pub unfold_answer : List ℕ → HeaderRecord → List ℕ → Answer
unfold_answer s x out = answer_of (unfold_plan s x (length out))

abbrev pub unfold_after : List ℕ → HeaderRecord → List ℕ → List ℕ
unfold_after s x out = after_of out (unfold_plan s x (length out))
