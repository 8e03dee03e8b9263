-- The check in pieces, over every outcome that the contracts of `start`, `feed` and `finish` allow, and over those of the strict reader.
-- `proofs/Arrives.antt` proves it. Assumes nothing.
use Rattle.std.specs.Prelude.{ℕ, ◌≤◌, ◌≡◌, List, [], ◌∷◌, ◌↔◌, length, take, Ok}
use Rattle.ground.specs.Verdict.{verdict, refused, most_bytes, most_records}
use Rattle.ground.specs.declared.Answer.{Answer}
use Rattle.entry.specs.Record.{many}
use Rattle.rules.specs.Gate.{rule_gate}
use Rattle.strict.specs.Strict.{strict_answer}
use Rattle.arriving.specs.Feed.{together}
use Rattle.checking.specs.Whole.{check_of}
use Rattle.checking.specs.Sixteen.{MeetsLong}
use Rattle.checking.specs.Claims.{joined, Rooms}
use Rattle.arriving.specs.declared.Check.{Check}
use Rattle.piece_ends.proofs as piece_ends
use Rattle.pieces.proofs as pieces
use Rattle.call.specs.Call.{Call, call, Run, EachOnce}

-- the three calls by their own contracts
abbrev pub start_call : Call
start_call = call piece_ends.start.Kinds.ps piece_ends.start.Kinds.r piece_ends.start.Reads.Asked piece_ends.start.Reads.Post

abbrev pub feed_call : Call
feed_call = call pieces.feed.Kinds.ps pieces.feed.Kinds.r pieces.feed.Reads.Asked pieces.feed.Reads.Post

abbrev pub finish_call : Call
finish_call = call piece_ends.finish.Kinds.ps piece_ends.finish.Kinds.r piece_ends.finish.Reads.Asked piece_ends.finish.Reads.Post

-- what a call of `feed` is handed, and what it comes to
abbrev pub handed : Run feed_call → Check
handed r = together r.given.args.0.now r.given.args.1.0.now r.given.args.1.1.0

abbrev pub left : Run feed_call → Check
left r = together r.came.last.0.now r.came.last.1.0.now r.came.answer

abbrev pub piece : Run feed_call → List ℕ
piece r = r.given.args.1.1.1.0.now

-- calls of `feed` one after the other, each handed what the one before came to: from one state to another, with these pieces
pub data Feeds : Check → List (List ℕ) → Check → Type 3 where
  no-piece : {c : Check} → Feeds c [] c
  a_piece : {c d : Check} {ps : List (List ℕ)} (r : Run feed_call) → handed r ≡ c → Feeds (left r) ps d → Feeds c (piece r ∷ ps) d

-- a check from its start to its end: a call of `start`, calls of `feed`, and a call of `finish`, with rooms that hold anything at first
pub record Checked (h k : ℕ) (ps : List (List ℕ)) (a : Answer) : Type 3 where
  pub begun : Run start_call
  pub length_of_ids : begun.given.args.0 ≡ h
  pub rule_set : begun.given.args.1.0 ≡ k
  pub held : List ℕ
  pub ends : List ℕ
  pub rooms : Rooms held ends
  pub after : Check
  pub fed : Feeds (together held ends begun.came.answer) ps after
  pub ended : Run finish_call
  pub from : ended.given.args.0 ≡ after.marks
  pub answer : ended.came.answer ≡ a

pub record Arrives : Type 3 where
  -- each of the three calls takes every input, and no second answer meets its contract; nor can anything else stand in what `feed` was lent
  pub once : EachOnce (start_call ∷ feed_call ∷ finish_call ∷ [])
  pub same_left : (r q : Run feed_call) → handed r ≡ handed q → piece r ≡ piece q → left r ≡ left q
  -- the answer is that of the object, however it was cut: every object, id length and rule set
  pub any_cut : (h k : ℕ) (ps : List (List ℕ)) (a : Answer) → Checked h k ps a → a ≡ check_of h k (joined ps)
  -- so no two ways of cutting one object, and no two answers that the contracts allow, differ
  pub same_object : (h k : ℕ) (ps qs : List (List ℕ)) (a b : Answer) → joined ps ≡ joined qs → Checked h k ps a → Checked h k qs b → a ≡ b
  -- after a refusal no call of `feed` changes anything
  pub stays : (c d : Check) (ps : List (List ℕ)) → Feeds c ps d → (c.marks.verdict.number ≡ 0 → ⊥) → d ≡ c
  -- within the bound and where 16 is not given, it is the strict reader's by the same rule set, with any lent list that has room enough
  pub as_strict : (h k : ℕ) (ps : List (List ℕ)) (a : Answer) (lent : List ℕ) → Checked h k ps a → length (joined ps) ≤ most_bytes
      → many (length lent) ≤ most_records → (a.verdict.number ≡ 16 → ⊥) → ((strict_answer k h (joined ps) lent).verdict.number ≡ 4 → ⊥)
      → a ≡ strict_answer k h (joined ps) lent
  -- 16 at a place exactly where strict reading of the bytes up to the bound reaches there an entry with a readable mode and too long a name
  pub sixteen : (h k : ℕ) (ps : List (List ℕ)) (a : Answer) → Checked h k ps a → rule_gate k h 0 0 ≡ Ok tt → (place : ℕ)
      → (a ≡ refused (verdict 16 place)) ↔ MeetsLong k h (take most_bytes (joined ps)) place
