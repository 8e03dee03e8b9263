-- The check in pieces under the first demand, and its calls under C names over a state that is lent. `proofs/Pieces.antt` proves it. Assumes nothing.
use Rattle.std.specs.Prelude.{ℕ, ◌<◌, ◌≡◌, List, [], ◌∷◌, ◌++◌, get_or}
use Rattle.checking.specs.Whole.{check_of}
use Rattle.checking.specs.Claims.{joined, Rooms}
use Rattle.arriving.specs.declared.Marks.{Marks}
use Rattle.border.specs.Border.{answer_numbers}
use Rattle.piece_state.proofs as state
use Rattle.piece_said.proofs as piece_said
use Rattle.sarpukten.proofs as c
use Rattle.call.specs.Call.{Call, call, Input, Outcome, Meets, TakesAll, Run, Said, Deed, Refusal, Fits, EachOnce, Keeps}
use Rattle.call.specs.Deeds.{of_answer, reads, stores}
use Rattle.call.specs.Deeds.{hands}
use Rattle.paper.specs.Border.{verdict_in, said_in}
use Rattle.paper.specs.Arrives.{start_call, feed_call, finish_call}

-- The first demand of a call that goes on with a state: it takes every state; no second answer meets the contract, and nothing else can stand in what was
-- lent; what it says has one of these numbers, or one that the state had; and where the state has a refusal, it says that, and all that was lent stays.
pub record GoesOn (d : Deed) (state : Input d.call → Said) (numbers : List ℕ) : Type 0 where
  pub takes : TakesAll d.call
  pub once : (i : Input d.call) (o p : Outcome d.call i) → Meets d.call i o → Meets d.call i p
      → (o.answer ≡ p.answer) × (d.handed i o ≡ d.handed i p) × (d.after i o ≡ d.after i p)
  pub fits : (i : Input d.call) (o : Outcome d.call i) → Meets d.call i o → (had : List ℕ) → Fits had (state i) → Fits (numbers ++ had) (d.said i o)
  pub stays : (i : Input d.call) (o : Outcome d.call i) → Meets d.call i o → Refusal (state i).verdict
      → ((d.said i o).verdict ≡ (state i).verdict) × (d.after i o ≡ d.before i)

-- ---- the calls

-- the refusal that is settled; nothing is counted before the end
abbrev pub of_marks : Marks → Said
of_marks m = record { verdict = m.verdict; counts = [] }

abbrev pub start_pieces : Deed
start_pieces = reads start_call (λ i x. of_marks x)

-- it is lent the two rooms
abbrev pub feed_pieces : Deed
feed_pieces =
    record {
      call = feed_call;
      before = λ i. i.args.0.now ∷ i.args.1.0.now ∷ [];
      after = λ i o. o.last.0.now ∷ o.last.1.0.now ∷ [];
      handed = λ i o. [];
      said = λ i o. of_marks o.answer;
    }

abbrev pub feed_state : Input feed_call → Said
feed_state i = of_marks i.args.1.1.0

abbrev pub finish_pieces : Deed
finish_pieces = reads finish_call (λ i x. of_answer x)

abbrev pub finish_state : Input finish_call → Said
finish_state i = of_marks i.args.0

-- the marks that numbers say, and the numbers of marks
abbrev pub said_marks : Call
said_marks = call piece_said.marks_said.Kinds.ps piece_said.marks_said.Kinds.r piece_said.marks_said.Reads.Asked piece_said.marks_said.Reads.Post

abbrev pub store_marks : Deed
store_marks =
    stores (call state.store_marks.Kinds.ps state.store_marks.Kinds.r state.store_marks.Reads.Asked state.store_marks.Reads.Post)
    (λ i. i.args.1.0.now) (λ i o. o.last.1.0.now)

-- ---- under C names

abbrev pub start_c : Call
start_c = call c.sarpukten_check_start.Kinds.ps c.sarpukten_check_start.Kinds.r c.sarpukten_check_start.Reads.Asked c.sarpukten_check_start.Reads.Post

abbrev pub piece_c : Call
piece_c = call c.sarpukten_check_piece.Kinds.ps c.sarpukten_check_piece.Kinds.r c.sarpukten_check_piece.Reads.Asked c.sarpukten_check_piece.Reads.Post

abbrev pub end_c : Call
end_c = call c.sarpukten_check_end.Kinds.ps c.sarpukten_check_end.Kinds.r c.sarpukten_check_end.Reads.Asked c.sarpukten_check_end.Reads.Post

-- the numbers of a state begin with the refusal that is settled
abbrev pub marks_in : List ℕ → Said
marks_in l = record { verdict = verdict_in l; counts = [] }

-- the state is what it hands over: the numbers, then the first bytes
abbrev pub check_start : Deed
check_start = hands start_c (λ i o. o.last.1.1.0.now ++ o.last.1.1.1.0.now) marks_in (λ i. []) (λ i o. [])

abbrev pub check_piece : Deed
check_piece =
    record {
      call = piece_c;
      before = λ i. i.args.0.now ∷ i.args.1.0.now ∷ i.args.1.1.0.now ∷ i.args.1.1.1.0.now ∷ [];
      after = λ i o. o.last.0.now ∷ o.last.1.0.now ∷ o.last.1.1.0.now ∷ o.last.1.1.1.0.now ∷ [];
      handed = λ i o. [];
      said = λ i o. marks_in o.last.1.1.0.now;
    }

abbrev pub piece_state : Input piece_c → Said
piece_state i = marks_in i.args.1.1.0.now

abbrev pub check_end : Deed
check_end = hands end_c (λ i o. o.last.1.1.0.now) said_in (λ i. []) (λ i o. [])

abbrev pub end_state : Input end_c → Said
end_state i = marks_in i.args.0.now

-- 1 and 19 at the start; what a byte settles; 3 at the end
pub record OfPieces : Type 3 where
  pub start : Keeps start_pieces (0 ∷ 1 ∷ 19 ∷ [])
  pub feed : GoesOn feed_pieces feed_state (2 ∷ 3 ∷ 5 ∷ 6 ∷ 7 ∷ 16 ∷ 17 ∷ 18 ∷ [])
  pub finish : GoesOn finish_pieces finish_state (0 ∷ 3 ∷ [])
  pub said_marks : EachOnce (said_marks ∷ [])
  pub store_marks : Keeps store_marks (0 ∷ [])
  pub check_start : Keeps check_start (0 ∷ 1 ∷ 19 ∷ [])
  pub check_piece : GoesOn check_piece piece_state (2 ∷ 3 ∷ 5 ∷ 6 ∷ 7 ∷ 16 ∷ 17 ∷ 18 ∷ [])
  pub check_end : GoesOn check_end end_state (0 ∷ 3 ∷ [])

-- ---- from a start to an end under C names

-- a state that is lent: the held name, the lengths of the open names, the numbers of the marks, and an entry's first bytes
pub record Lent : Type 0 where
  pub held : List ℕ
  pub ends : List ℕ
  pub marks : List ℕ
  pub first : List ℕ

abbrev pub lent_to : Run piece_c → Lent
lent_to r =
    let a = r.given.args in
    record { held = a.0.now; ends = a.1.0.now; marks = a.1.1.0.now; first = a.1.1.1.0.now }

abbrev pub lent_from : Run piece_c → Lent
lent_from r =
    let a = r.came.last in
    record { held = a.0.now; ends = a.1.0.now; marks = a.1.1.0.now; first = a.1.1.1.0.now }

abbrev pub piece_of : Run piece_c → List ℕ
piece_of r = r.given.args.1.1.1.1.0.now

-- calls with these pieces, each lent what the one before left
pub data Lends : Lent → List (List ℕ) → Lent → Type 3 where
  no-piece : {s : Lent} → Lends s [] s
  a_piece : {s t : Lent} {ps : List (List ℕ)} (r : Run piece_c) → lent_to r ≡ s → Lends (lent_from r) ps t → Lends s (piece_of r ∷ ps) t

-- a start, calls with pieces, and the end, with rooms that hold anything at first; a rule set has 16 bits
pub record CheckedC (h k : ℕ) (ps : List (List ℕ)) (numbers : List ℕ) : Type 3 where
  pub begun : Run start_c
  pub length_of_ids : begun.given.args.0 ≡ h
  pub rule_set : begun.given.args.1.0 ≡ k
  pub small : k < 65536
  pub held : List ℕ
  pub ends : List ℕ
  pub rooms : Rooms held ends
  pub after : Lent
  pub fed : Lends (record { held = held; ends = ends; marks = begun.came.last.1.1.0.now; first = begun.came.last.1.1.1.0.now }) ps after
  pub ended : Run end_c
  pub from_marks : ended.given.args.0.now ≡ after.marks
  pub from_first : ended.given.args.1.0.now ≡ after.first
  pub answer : ended.came.last.1.1.0.now ≡ numbers

pub record Lending : Type 3 where
  -- the numbers at the end are those of the object, however it was cut: nothing is lost between the calls
  pub any_cut : (h k : ℕ) (ps : List (List ℕ)) (numbers : List ℕ) → CheckedC h k ps numbers → numbers ≡ answer_numbers (check_of h k (joined ps))
  -- with a refusal in it, a state that is lent stays as it is, whatever else it holds
  pub stays : (s t : Lent) (ps : List (List ℕ)) → Lends s ps t → (get_or s.marks 0 0 ≡ 0 → ⊥) → t ≡ s
