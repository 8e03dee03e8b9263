-- What is claimed of the check in pieces (`proofs/Theorem.antt` proves it; paper/specs/Arrives says it of the calls). Assumes nothing.
use Rattle.std.specs.Prelude.{ℕ, ◌≤◌, ◌<◌, ◌≡◌, List, [], ◌∷◌, ◌++◌, ◌⊎◌, ◌↔◌, length, take, Ok}
use Rattle.ground.specs.Verdict.{verdict, refused, most_bytes, most_records}
use Rattle.ground.specs.declared.Answer.{Answer}
use Rattle.entry.specs.Record.{many}
use Rattle.rules.specs.Gate.{rule_gate}
use Rattle.strict.specs.Strict.{strict_answer}
use Rattle.arriving.specs.Feed.{most_held, most_ends, together, start_of, feed_of, end_of}
use Rattle.checking.specs.Whole.{check_of}
use Rattle.checking.specs.Sixteen.{MeetsLong}
use Rattle.arriving.specs.declared.Check.{Check}

-- piece after piece, and the object that they make
unfoldable pub in_pieces : Check → List (List ℕ) → Check
in_pieces c [] = c
in_pieces c (p ∷ ps) = in_pieces (feed_of c p) ps

unfoldable pub joined : List (List ℕ) → List ℕ
joined [] = []
joined (p ∷ ps) = p ++ joined ps

-- room for a name and for the lengths of the open ones, whatever is in it
pub record Rooms (held ends : List ℕ) : Type 0 where
  pub name : length held ≡ most_held
  pub lengths : length ends ≡ most_ends

-- the answer at the end, by id length and rule set, with such rooms
abbrev pub answer : ℕ → ℕ → List ℕ → List ℕ → List (List ℕ) → Answer
answer h k held ends ps = end_of (in_pieces (together held ends (start_of h k)) ps)

pub record PieceLaws : Type 0 where
  -- the answer is that of the object, however it was cut, empty pieces among them or not, whatever the rooms held: every object, id length and rule set
  pub any_cut : (h k : ℕ) (held ends : List ℕ) → Rooms held ends → (ps : List (List ℕ)) → answer h k held ends ps ≡ check_of h k (joined ps)
  -- after a refusal further pieces change nothing, not even the state
  pub stays : (c : Check) (ps : List (List ℕ)) → (c.marks.verdict.number ≡ 0 → ⊥) → in_pieces c ps ≡ c
  -- within the bound and where 16 is not given, the answer is the strict reader's by the same rule set, with any lent list that has room enough
  pub as_strict : (h k : ℕ) (held ends : List ℕ) → Rooms held ends → (ps : List (List ℕ)) (lent : List ℕ) → length (joined ps) ≤ most_bytes
      → many (length lent) ≤ most_records → ((answer h k held ends ps).verdict.number ≡ 16 → ⊥) → ((strict_answer k h (joined ps) lent).verdict.number ≡ 4 → ⊥)
      → answer h k held ends ps ≡ strict_answer k h (joined ps) lent
  -- 16 is given at a place exactly where strict reading of the bytes up to the bound reaches there an entry with a readable mode and too long a name
  pub sixteen : (h k : ℕ) (held ends : List ℕ) → Rooms held ends → (ps : List (List ℕ)) → rule_gate k h 0 0 ≡ Ok tt → (place : ℕ)
      → (answer h k held ends ps ≡ refused (verdict 16 place)) ↔ MeetsLong k h (take most_bytes (joined ps)) place
  -- past the bound 2 is given, unless the bytes up to it settle a refusal: it is the same whatever follows them, nothing included
  pub past_bound : (h k : ℕ) (held ends : List ℕ) → Rooms held ends → (ps : List (List ℕ)) → most_bytes < length (joined ps)
      → (answer h k held ends ps ≡ refused (verdict 2 0))
      ⊎ ((qs : List (List ℕ)) → answer h k held ends (take most_bytes (joined ps) ∷ qs) ≡ answer h k held ends ps)
