-- The first demand of hex digits and of ids from digits and back. Assumes nothing.
use Prim.Native.Nat.{ℕ, ◌*◌, ◌/◌}
use mathlib.Core.Path.{refl}
use mathlib.Core.List.{List, [], ◌∷◌}
use lib.ListN.{length}
use Rattle.ground.specs.Verdict.{verdict, counted, refused}
use Rattle.ground.specs.declared.Answer.{Answer}
use Rattle.ground.proofs.Laws.{stored_refused}
use Rattle.output.specs.Output.{gated, fitted}
use Rattle.hex_digits.specs.Hex.{is_hex}
use Rattle.id_of_hex.specs.Id.{halved, digits_read, id_answer}
use Rattle.hex_of_id.specs.Hex.{hex_answer}
use Rattle.call.specs.Call.{none, ◌and◌, Fits}
use Rattle.call.specs.Deeds.{of_answer}
use Rattle.paper.specs.Demand1.{OfHex}
use Rattle.call.proofs.Laws.{answers_once, Of, done, zero, wider, keeps-writes, each-pick, each_gate, each-fitted}

-- every way to take digits, a count, 1, 2, 10, 8, and to give them, the same without 10
module _ (Q : Answer → Type 0) (count : (n : ℕ) → Q (counted n)) (one : Q (refused (verdict 1 0))) (two : Q (refused (verdict 2 0)))
    (eight : (n : ℕ) → Q (refused (verdict 8 n))) where
  each-id : Q (refused (verdict 10 0)) → (d : List ℕ) (room : ℕ) → Q (id_answer d room)
  unfolding id_answer digits_read gated
  each-id ten d room =
      each_gate (λ g. Q (gated g (fitted room (digits_read d))))
      (each-fitted Q room _ (each-pick Q (is_hex d) (counted (length d / 2)) (refused (verdict 10 0)) (count _) ten) (λ n l. eight n)) one two (halved (length d)) room 0

  each-hex : (id : List ℕ) (room : ℕ) → Q (hex_answer id room)
  unfolding hex_answer gated
  each-hex id room =
      each_gate (λ g. Q (gated g (fitted room (counted (2 * length id))))) (each-fitted Q room _ (count _) (λ n l. eight n)) one two (length id) room 0

pub id-fits : (d : List ℕ) (room : ℕ) → Fits (0 ∷ 1 ∷ 2 ∷ 8 ∷ 10 ∷ []) (of_answer (id_answer d room))
id-fits = each-id (Of _ of_answer) (λ n. done refl refl) (zero refl refl) (zero refl refl) (λ n. zero refl refl) (zero refl refl)

pub hex-fits : (id : List ℕ) (room : ℕ) → Fits (0 ∷ 1 ∷ 2 ∷ 8 ∷ []) (of_answer (hex_answer id room))
hex-fits = each-hex (Of _ of_answer) (λ n. done refl refl) (zero refl refl) (zero refl refl) (λ n. zero refl refl)

pub of_hex : OfHex
of_hex = record {
  hex_questions = ((λ i. tt), answers_once _ _ (λ i o m. m)) and ((λ i. tt), answers_once _ _ (λ i o m. m)) and ((λ i. tt), answers_once _ _ (λ i o m. m)) and ((λ i. tt), answers_once _ _ (λ i o m. m)) and none;
  id_of_hex = keeps-writes _ (λ i. tt) _ _ _ _ _ _ (λ i o m. m) (λ i. wider (id-fits _ _) refl) (λ i z. stored_refused _ _ _ z);
  hex_of_id = keeps-writes _ (λ i. tt) _ _ _ _ _ _ (λ i o m. m) (λ i. wider (hex-fits _ _) refl) (λ i z. stored_refused _ _ _ z);
}
