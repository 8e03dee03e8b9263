-- The first demand of the readers of a whole tree. Assumes nothing.
use Prim.Native.Nat.{ℕ, ◌<◌}
use native.Mathlib.Omega.{arith}
use mathlib.Core.Path.{◌≡◌, refl}
use mathlib.Core.Bool.{Bool, true, false}
use mathlib.Core.List.{List, [], ◌∷◌}
use lib.ListN.{length}
use Rattle.ground.specs.Basics.{pick}
use Rattle.ground.specs.Verdict.{verdict, broken, is_part, counted, refused, most_records}
use Rattle.ground.specs.declared.Answer.{Answer}
use Rattle.ground.proofs.Laws.{stored_refused}
use Rattle.entry.specs.Record.{many}
use Rattle.doubles.specs.Doubles.{named_before}
use Rattle.rules.specs.Rules.{or_else, is_text, judge, modes_of, permitted, is_dot_git, name_number, is_after, after_number, git_rules}
use Rattle.rules.specs.Gate.{rule_gate}
use Rattle.rules.proofs.Laws.{rule_shut}
use Rattle.reading.specs.Listing.{Listing, listing, tally}
use Rattle.reading.specs.Whole.{in_room, answer_of, read_answer}
use Rattle.reading.proofs.Laws.{Stops, tally_stops}
use Rattle.strict.specs.Strict.{strictly, strict_answer}
use Rattle.call.specs.Call.{none, ◌and◌, Fits}
use Rattle.call.specs.Deeds.{of_answer, of_gate}
use Rattle.tree_calls.specs.First.{OfReading}
use Rattle.call.proofs.Laws.{answers_once, Of, done, zero, wider, keeps-reads, keeps-writes, keeps-stores, each_within, each_gate}
use Rattle.tree_calls.proofs.Placed.{Placed, placed_stops, plain-placed, cut-placed}
use Rattle.ground.specs.declared.Verdict.{Verdict}
use Rattle.std.specs.Prelude.{Err, Ok, Result, ⊤}

-- every way to read: a count, 1, 2, 3 inside the object, 4 with more than there is room for; strictly also 19, and 5, 6, 18, 7 and 17 inside the object
module _ (Q : Answer → Type 0) (h : ℕ) (s lent : List ℕ) (count : (n : ℕ) → Q (counted n)) (one : Q (refused (verdict 1 0))) (two : Q (refused (verdict 2 0)))
    (three : (at k : ℕ) → at < length s → is_part k ≡ true → Q (refused (broken at k))) (four : (n : ℕ) → many (length lent) < n → Q (refused (verdict 4 n))) where
  abbrev Ends : Listing → Type 0
  Ends = Stops (λ v. Q (refused v))

  abbrev room : ℕ
  room = many (length lent)

  each-counted : (l : Listing) → Ends l → Q (in_room room (tally 0 l))
  each-counted l e = go (tally 0 l) refl
    where
      go : (k : Result ℕ Verdict) → tally 0 l ≡ k → Q (in_room room k)
      go (Ok n) q = each_within Q n room (counted n) (refused (verdict 4 n)) (λ p. count n) (four n)
      go (Err v) q = tally_stops (λ v. Q (refused v)) 0 l v e q

  placed : Placed (λ v. Q (refused v)) (length s) (listing h s)
  placed = plain-placed (λ v. Q (refused v)) (length s) two three h most_records 0 s (omega arith)

  pub each-plain : Q (read_answer h s (listing h s) lent)
  unfolding answer_of
  each-plain =
      each_gate (λ g. Q (answer_of g (listing h s) room)) (each-counted (listing h s) (placed_stops (λ v. Q (refused v)) (length s) (listing h s) placed)) one two h (length s) room

  module _ (five : (at : ℕ) → at < length s → Q (refused (verdict 5 at))) (six : (at : ℕ) → at < length s → Q (refused (verdict 6 at)))
      (seven : (at : ℕ) → at < length s → Q (refused (verdict 7 at))) (seventeen : (at : ℕ) → at < length s → Q (refused (verdict 17 at)))
      (eighteen : (at : ℕ) → at < length s → Q (refused (verdict 18 at))) (nineteen : Q (refused (verdict 19 0))) (k : ℕ) where
    strict-ends : Ends (strictly (git_rules k) h s)
    unfolding judge name_number after_number git_rules
    strict-ends =
        cut-placed (λ v. Q (refused v)) (length s) (git_rules k)
        (λ before text e at l. said at l (is_text (modes_of k) text) (permitted e.name) (is_dot_git e.name) (is_after before e) (named_before before e.name))
        h s [] (listing h s) placed
      where
        said : (at : ℕ) → at < length s → (text name git place double : Bool)
            → let n = or_else (pick text 0 5) (or_else (or_else (pick name 0 6) (pick git 18 0)) (or_else (pick place 0 7) (pick double 17 0))) in (n ≡ 0 → ⊥) → Q (refused (verdict n at))
        said at l true true false true false z = absurd (z refl)
        said at l true true false true true z = seventeen at l
        said at l true true false false double z = seven at l
        said at l true true true place double z = eighteen at l
        said at l true false git place double z = six at l
        said at l false name git place double z = five at l

    pub each-strict : Q (strict_answer k h s lent)
    unfolding answer_of
    each-strict = go (rule_gate k h (length s) room) refl
      where
        go : (g : Result ⊤ Verdict) → rule_gate k h (length s) room ≡ g → Q (answer_of g (strictly (git_rules k) h s) room)
        go (Ok tt) q = each-counted (strictly (git_rules k) h s) strict-ends
        go (Err v) q = rule_shut (λ v. Q (refused v)) one nineteen two k h (length s) room v q

pub plain_fits : (h : ℕ) (s lent : List ℕ) → Fits (0 ∷ 1 ∷ 2 ∷ 3 ∷ 4 ∷ []) (of_answer (read_answer h s (listing h s) lent))
plain_fits h s lent =
    each-plain (Of _ of_answer) h s lent (λ n. done refl refl) (zero refl refl) (zero refl refl) (λ at k l p. zero refl p) (λ n l. zero refl refl)

pub strict-fits : (k h : ℕ) (s lent : List ℕ) → Fits (0 ∷ 1 ∷ 2 ∷ 3 ∷ 4 ∷ 5 ∷ 6 ∷ 7 ∷ 17 ∷ 18 ∷ 19 ∷ []) (of_answer (strict_answer k h s lent))
strict-fits k h s lent =
    each-strict (Of _ of_answer) h s lent (λ n. done refl refl) (zero refl refl) (zero refl refl) (λ at k l p. zero refl p) (λ n l. zero refl refl)
    (λ at l. zero refl refl) (λ at l. zero refl refl) (λ at l. zero refl refl) (λ at l. zero refl refl) (λ at l. zero refl refl) (zero refl refl) k

-- what is done is a count
pub strict-counts : (k h : ℕ) (s lent : List ℕ) → (strict_answer k h s lent).verdict.number ≡ 0 → strict_answer k h s lent ≡ counted (strict_answer k h s lent).count
strict-counts k h s lent =
    each-strict (λ a. a.verdict.number ≡ 0 → a ≡ counted a.count) h s lent (λ n z. refl) (λ z. absurd (omega arith)) (λ z. absurd (omega arith))
    (λ at k l p z. absurd (omega arith)) (λ n l z. absurd (omega arith)) (λ at l z. absurd (omega arith)) (λ at l z. absurd (omega arith))
    (λ at l z. absurd (omega arith)) (λ at l z. absurd (omega arith)) (λ at l z. absurd (omega arith)) (λ z. absurd (omega arith)) k

-- every way through the gate of a rule set: open, 1, 2, 19
rule_gate_fits : (k h bytes records : ℕ) → Fits (0 ∷ 1 ∷ 2 ∷ 19 ∷ []) (of_gate (rule_gate k h bytes records))
rule_gate_fits k h bytes records = go (rule_gate k h bytes records) refl
  where
    go : (g : Result ⊤ Verdict) → rule_gate k h bytes records ≡ g → Fits (0 ∷ 1 ∷ 2 ∷ 19 ∷ []) (of_gate g)
    go (Ok tt) q = done refl refl
    go (Err v) q = rule_shut (λ w. Fits (0 ∷ 1 ∷ 2 ∷ 19 ∷ []) (of_gate (Err w))) (zero refl refl) (zero refl refl) (zero refl refl) k h bytes records v q

pub of_reading : OfReading
of_reading = record {
  rule_bounds = keeps-reads _ (λ i. tt) _ _ _ (λ i o m. m) (λ i. rule_gate_fits _ _ _ _);
  rule_questions = ((λ i. tt), answers_once _ _ (λ i o m. m)) and ((λ i. tt), answers_once _ _ (λ i o m. m)) and ((λ i. tt), answers_once _ _ (λ i o m. m)) and none;
  place_entry = keeps-stores _ (λ i. tt) _ _ _ _ (λ i o m. m);
  open_entry = keeps-stores _ (λ i. tt) _ _ _ _ (λ i o m. m);
  finish_reading = keeps-stores _ (λ i. tt) _ _ _ _ (λ i o m. m);
  read_tree = keeps-writes _ (λ i. tt) _ _ _ _ _ _ (λ i o m. m) (λ i. wider (plain_fits _ i.args.0.now i.args.1.1.0.now) refl) (λ i z. stored_refused _ _ _ z);
  read_tree_strict = keeps-writes _ (λ i. tt) _ _ _ _ _ _ (λ i o m. m) (λ i. wider (strict-fits _ _ i.args.0.now i.args.1.1.1.0.now) refl) (λ i z. stored_refused _ _ _ z);
}
