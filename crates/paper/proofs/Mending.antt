-- The first demand of mending, and of what it asks of an entry; and of the leaves of the check in pieces and the words of a command line. Assumes nothing.
use Prim.Native.Nat.{ℕ, max}
use mathlib.Core.Path.{◌≡◌, refl, ap, sym, ◌∙◌}
use mathlib.Core.List.{List, [], ◌∷◌}
use lib.Dec.{leb}
use lib.ListN.{length}
use Rattle.ground.specs.Verdict.{most_records}
use Rattle.ground.proofs.Laws.{stored_refused}
use Rattle.reading.specs.Listing.{listing, tally}
use Rattle.reading.proofs.Laws.{tally_stops, plain_stops}
use Rattle.mend.specs.Mend.{mended, not_mended, in_room, counted_answer, answer_by, mend_answer}
use Rattle.mend.specs.declared.Mended.{Mended}
use Rattle.arriving.specs.declared.Check.{Check}
use Rattle.call.specs.Call.{Fits, ◌and◌, none}
use Rattle.paper.specs.Calls.{of_mended}
use Rattle.paper.specs.Demand1.{OfMending, OfLeaves}
use Rattle.call.proofs.Laws.{answers_once, two-lists, done, zero, wider, keeps, each-pick, each_gate}
use Rattle.ground.specs.declared.Verdict.{Verdict}
use Rattle.std.specs.Prelude.{Err, Ok, Result, ⊤}

abbrev numbers : List ℕ
numbers = 0 ∷ 1 ∷ 2 ∷ 3 ∷ 4 ∷ 8 ∷ []

abbrev Fine : Mended → Type 0
Fine a = Fits numbers (of_mended a)

counted-fits : (h : ℕ) (s : List ℕ) (list room : ℕ) (c : Result ℕ Verdict) → tally 0 (listing h s) ≡ c → Fine (counted_answer h s list room c)
unfolding counted_answer in_room
counted-fits h s list room (Ok n) q =
    each-pick Fine (leb n list) _ _ (each-pick Fine (leb (length (mended h s)) room) _ _ (done refl refl) (zero refl refl)) (zero refl refl)
counted-fits h s list room (Err v) q =
    tally_stops (λ w. Fine (not_mended w)) 0 (listing h s) v (plain_stops (λ w. Fine (not_mended w)) (zero refl refl) (λ at k p. zero refl p) h most_records 0 s) q

pub mend_fits : (h : ℕ) (s : List ℕ) (list room : ℕ) → Fine (mend_answer h s list room)
unfolding mend_answer answer_by
mend_fits h s list room =
    each_gate (λ (g : Result ⊤ Verdict). Fine (answer_by g (counted_answer h s list room (tally 0 (listing h s))))) (counted-fits h s list room (tally 0 (listing h s)) refl)
    (zero refl refl) (zero refl refl) h (max (length s) room) list

pub of_mending : OfMending
of_mending = record {
  mend_questions = ((λ i. tt), answers_once _ _ (λ i o m. m)) and ((λ i. tt), answers_once _ _ (λ i o m. m)) and ((λ i. tt), answers_once _ _ (λ i o m. m)) and none;
  mend_tree = keeps _ _ (λ i. tt) (record {
    answers = λ i. _;
    hands = λ i. [];
    leaves = λ i. _;
    says = λ i. _;
    told = λ i o m. (m.0, refl, two-lists m.1.0 m.1.1, ap of_mended m.0);
  }) (λ i. wider (mend_fits _ _ _ _) refl) (λ i z. two-lists (stored_refused _ _ _ z) (stored_refused _ _ _ z));
}

pub of_leaves : OfLeaves
of_leaves = record {
  piece_questions =
      ((λ i. tt), answers_once _ _ (λ i o m. m)) and ((λ i. tt), answers_once _ _ (λ i o m. m)) and ((λ i. tt), answers_once _ _ (λ i o m. m)) and ((λ i. tt), answers_once _ _ (λ i o m. m)) and ((λ i. tt), answers_once _ _ (λ i o m. m)) and
      ((λ i. tt), answers_once _ _ (λ i o m. m)) and ((λ i. tt), answers_once _ _ (λ i o m. m)) and ((λ i. tt), answers_once _ _ (λ i o m. m)) and ((λ i. tt), answers_once _ _ (λ i o m. m)) and
      ((λ i. tt), answers_once _ _ (λ i o m. m)) and ((λ i. tt), answers_once _ _ (λ i o m. m)) and
      (λ i. tt, λ i o p m n. ap (λ (c : Check). c.marks) (m ∙ sym n)) and (λ i. tt, λ i o p m n. ap (λ (c : Check). c.marks) (m ∙ sym n)) and
      (λ i. tt, λ i o p m n. ap (λ (c : Check). c.marks) (m ∙ sym n)) and
      ((λ i. tt), answers_once _ _ (λ i o m. m)) and ((λ i. tt), answers_once _ _ (λ i o m. m)) and ((λ i. tt), answers_once _ _ (λ i o m. m)) and
      ((λ i. tt), answers_once _ _ (λ i o m. m.0)) and ((λ i. tt), answers_once _ _ (λ i o m. m.0)) and ((λ i. tt), answers_once _ _ (λ i o m. m.0)) and ((λ i. tt), answers_once _ _ (λ i o m. m.0)) and
      ((λ i. tt), answers_once _ _ (λ i o m. m.0)) and none;
  word_questions =
      ((λ i. tt), answers_once _ _ (λ i o m. m)) and ((λ i. tt), answers_once _ _ (λ i o m. m)) and ((λ i. tt), answers_once _ _ (λ i o m. m)) and ((λ i. tt), answers_once _ _ (λ i o m. m)) and
      ((λ i. tt), answers_once _ _ (λ i o m. m)) and none;
}
