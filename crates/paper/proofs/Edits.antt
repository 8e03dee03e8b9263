-- The first demand of the edits, and of the count and the walk that they stand on. Assumes nothing.
use Prim.Native.Nat.{ℕ}
use native.Mathlib.Omega.{arith}
use mathlib.Core.Path.{◌≡◌, refl}
use mathlib.Core.Bool.{Bool, true, false}
use mathlib.Core.List.{List, [], ◌∷◌}
use lib.Dec.{eqb, leb}
use lib.ListN.{length}
use Rattle.ground.specs.Basics.{pick}
use Rattle.ground.specs.Verdict.{verdict, broken, is_part, counted, refused, most_bytes, most_records}
use Rattle.ground.specs.declared.Verdict.{Verdict}
use Rattle.ground.specs.declared.Answer.{Answer}
use Rattle.ground.proofs.Laws.{stored_refused}
use Rattle.output.specs.Output.{gated, fitted}
use Rattle.entry.specs.Entry.{Entry, as_written}
use Rattle.doubles.specs.Doubles.{named_before}
use Rattle.rules.specs.Rules.{or_else, is_text, judge, modes_of, permitted, is_dot_git, name_number, is_after, after_number, git_rules}
use Rattle.rules.specs.Gate.{rule_gate}
use Rattle.rules.proofs.Laws.{rule_shut}
use Rattle.reading.specs.Listing.{listing, tally}
use Rattle.reading.proofs.Laws.{Stops, tally_stops}
use Rattle.strict.specs.Strict.{strictly, strict_count}
use Rattle.one_listing.specs.Sound.{is_mode}
use Rattle.edit.specs.Table.{put_in, is_held, table_of}
use Rattle.edit.specs.Edit.{entries_in, new_no, size_of, putting, removing, on_counted, put_answer, remove_answer}
use Rattle.call.specs.Call.{Fits, ◌and◌, none}
use Rattle.call.specs.Deeds.{of_answer}
use Rattle.paper.specs.Calls.{of_counted}
use Rattle.paper.specs.Demand1.{OfEdits}
use Rattle.call.proofs.Laws.{answers_once, Of, done, zero, wider, keeps-reads, keeps-writes, keeps-stores, each-pick, each-fitted}
use Rattle.tree_calls.proofs.Placed.{plain-placed, cut-placed}
use Rattle.std.specs.Prelude.{Err, Ok, Result, ⊤}

-- every way that a strict reading stops: 2, 3, 5, 6, 18, 7, 17
module _ (P : Verdict → Type 0) (two : P (verdict 2 0)) (three : (at p : ℕ) → is_part p ≡ true → P (broken at p)) (five : (at : ℕ) → P (verdict 5 at))
    (six : (at : ℕ) → P (verdict 6 at)) (seven : (at : ℕ) → P (verdict 7 at)) (seventeen : (at : ℕ) → P (verdict 17 at))
    (eighteen : (at : ℕ) → P (verdict 18 at)) (k h : ℕ) (s : List ℕ) where
  strict_stops : Stops P (strictly (git_rules k) h s)
  unfolding judge name_number after_number git_rules
  strict_stops =
      cut-placed P (length s) (git_rules k)
      (λ before text e at l. said at (is_text (modes_of k) text) (permitted e.name) (is_dot_git e.name) (is_after before e) (named_before before e.name))
      h s [] (listing h s) (plain-placed P (length s) two (λ at p l q. three at p q) h most_records 0 s (omega arith))
    where
      said : (at : ℕ) (text name git place double : Bool)
          → let n = or_else (pick text 0 5) (or_else (or_else (pick name 0 6) (pick git 18 0)) (or_else (pick place 0 7) (pick double 17 0))) in (n ≡ 0 → ⊥) → P (verdict n at)
      said at true true false true false z = absurd (z refl)
      said at true true false true true z = seventeen at
      said at true true false false double z = seven at
      said at true true true place double z = eighteen at
      said at true false git place double z = six at
      said at false name git place double z = five at

  pub each-tally : (Q : Result ℕ Verdict → Type 0) → ((n : ℕ) → Q (Ok n)) → ((v : Verdict) → P v → Q (Err v)) → Q (tally 0 (strictly (git_rules k) h s))
  each-tally Q total stopped = go (tally 0 (strictly (git_rules k) h s)) refl
    where
      go : (c : Result ℕ Verdict) → tally 0 (strictly (git_rules k) h s) ≡ c → Q c
      go (Ok n) q = total n
      go (Err v) q = stopped v (tally_stops P 0 (strictly (git_rules k) h s) v strict_stops q)

-- every way through the gate of a rule set
each_rule_gate : (Q : Result ⊤ Verdict → Type 0) → Q (Ok tt) → Q (Err (verdict 1 0)) → Q (Err (verdict 19 0)) → Q (Err (verdict 2 0)) → (k h bytes records : ℕ) → Q (rule_gate k h bytes records)
each_rule_gate Q begun one nineteen two k h bytes records = go (rule_gate k h bytes records) refl
  where
    go : (g : Result ⊤ Verdict) → rule_gate k h bytes records ≡ g → Q g
    go (Ok tt) q = begun
    go (Err v) q = rule_shut (λ w. Q (Err w)) one nineteen two k h bytes records v q

-- every number of a new entry
each-new : (P : ℕ → Type 0) → P 0 → P 10 → P 5 → P 6 → P 18 → (k h : ℕ) (new : Entry) → P (new_no (git_rules k) h new)
unfolding new_no git_rules name_number
each-new P good ten five six eighteen k h new =
    go (eqb (length new.id) h) (is_mode (modes_of k) new.mode) (permitted new.name) (is_dot_git new.name)
  where
    go : (a b c d : Bool) → P (pick a (or_else (pick b 0 5) (or_else (pick c 0 6) (pick d 18 0))) 10)
    go false b c d = ten
    go true false c d = five
    go true true false d = six
    go true true true true = eighteen
    go true true true false = good

-- every way of the two edits
module _ (Q : Answer → Type 0) (count : (n : ℕ) → Q (counted n))
    (one : Q (refused (verdict 1 0))) (two : Q (refused (verdict 2 0))) (nineteen : Q (refused (verdict 19 0)))
    (three : (at p : ℕ) → is_part p ≡ true → Q (refused (broken at p))) (five : (at : ℕ) → Q (refused (verdict 5 at))) (six : (at : ℕ) → Q (refused (verdict 6 at)))
    (seven : (at : ℕ) → Q (refused (verdict 7 at))) (eight : (n : ℕ) → Q (refused (verdict 8 n))) (seventeen : (at : ℕ) → Q (refused (verdict 17 at)))
    (eighteen : (at : ℕ) → Q (refused (verdict 18 at))) where
  behind : (k h m : ℕ) (s : List ℕ) (a : Answer) → Q a → Q (gated (rule_gate k h m 0) (on_counted (tally 0 (strictly (git_rules k) h s)) a))
  unfolding gated on_counted
  behind k h m s a q =
      each_rule_gate (λ g. Q (gated g (on_counted (tally 0 (strictly (git_rules k) h s)) a)))
      (each-tally (λ v. Q (refused v)) two three five six seven seventeen eighteen k h s (λ c. Q (on_counted c a)) (λ n. q) (λ v p. p)) one nineteen two k h m 0

  pub each-put : Q (refused (verdict 10 0)) → (k h : ℕ) (s : List ℕ) (new : Entry) (room : ℕ) → Q (put_answer k h s new room)
  unfolding put_answer putting size_of
  each-put ten k h s new room =
      behind k h _ s _
      (each-new (λ n. Q (pick (eqb n 0) (fitted room (pick (leb (length (put_in new (entries_in h s))) most_records) (counted (length (as_written (put_in new (entries_in h s))))) (refused (verdict 2 0))))
      (refused (verdict n 0))))
      (each-fitted Q room _ (each-pick Q (leb (length (put_in new (entries_in h s))) most_records) _ _ (count _) two) (λ n l. eight n)) ten (five 0) (six 0) (eighteen 0) k h new)

  pub each-remove : Q (refused (verdict 15 0)) → (k h : ℕ) (s name : List ℕ) (room : ℕ) → Q (remove_answer k h s name room)
  unfolding remove_answer removing
  each-remove fifteen k h s name room =
      behind k h _ s _ (each-pick Q (is_held (table_of (entries_in h s) name)) _ _ (each-fitted Q room _ (count _) (λ n l. eight n)) fifteen)

pub put-fits : (k h : ℕ) (s : List ℕ) (new : Entry) (room : ℕ)
    → Fits (0 ∷ 1 ∷ 2 ∷ 3 ∷ 5 ∷ 6 ∷ 7 ∷ 8 ∷ 10 ∷ 17 ∷ 18 ∷ 19 ∷ []) (of_answer (put_answer k h s new room))
put-fits =
    each-put (Of _ of_answer) (λ n. done refl refl) (zero refl refl) (zero refl refl) (zero refl refl) (λ at p q. zero refl q) (λ at. zero refl refl)
    (λ at. zero refl refl) (λ at. zero refl refl) (λ n. zero refl refl) (λ at. zero refl refl) (λ at. zero refl refl) (zero refl refl)

pub remove-fits : (k h : ℕ) (s name : List ℕ) (room : ℕ)
    → Fits (0 ∷ 1 ∷ 2 ∷ 3 ∷ 5 ∷ 6 ∷ 7 ∷ 8 ∷ 15 ∷ 17 ∷ 18 ∷ 19 ∷ []) (of_answer (remove_answer k h s name room))
remove-fits =
    each-remove (Of _ of_answer) (λ n. done refl refl) (zero refl refl) (zero refl refl) (zero refl refl) (λ at p q. zero refl q) (λ at. zero refl refl)
    (λ at. zero refl refl) (λ at. zero refl refl) (λ n. zero refl refl) (λ at. zero refl refl) (λ at. zero refl refl) (zero refl refl)

abbrev counts : List ℕ
counts = 0 ∷ 2 ∷ 3 ∷ 5 ∷ 6 ∷ 7 ∷ 17 ∷ 18 ∷ []

count_fits : (k h : ℕ) (s : List ℕ) → Fits counts (of_counted (strict_count k h s))
unfolding strict_count
count_fits k h s =
    each-pick (λ c. Fits counts (of_counted c)) (leb (length s) most_bytes) (tally 0 (strictly (git_rules k) h s)) (Err (verdict 2 0))
    (each-tally (λ v. Fits counts (of_counted (Err v))) (zero refl refl) (λ at p q. zero refl q) (λ at. zero refl refl) (λ at. zero refl refl) (λ at. zero refl refl)
    (λ at. zero refl refl) (λ at. zero refl refl) k h s (λ c. Fits counts (of_counted c)) (λ n. done refl refl) (λ v p. p)) (zero refl refl)

pub of_edits : OfEdits
of_edits = record {
  edit_questions = ((λ i. tt), answers_once _ _ (λ i o m. m)) and none;
  count_strict = keeps-reads _ (λ i. tt) _ _ _ (λ i o m. m) (λ i. count_fits _ _ _);
  walk_tree = keeps-stores _ (λ i. tt) _ _ _ _ (λ i o m. m);
  put_in_tree = keeps-writes _ (λ i. tt) _ _ _ _ _ _ (λ i o m. m) (λ i. wider (put-fits _ _ _ _ _) refl) (λ i z. stored_refused _ _ _ z);
  remove_from_tree = keeps-writes _ (λ i. tt) _ _ _ _ _ _ (λ i o m. m) (λ i. wider (remove-fits _ _ _ _ _) refl) (λ i z. stored_refused _ _ _ z);
}
