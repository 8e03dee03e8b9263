-- The first demand of writing trees and loose headers. Assumes nothing.
use Prim.Native.Nat.{ℕ, ◌+◌, ◌≤◌, ◌<◌}
use native.Mathlib.Omega.{arith}
use mathlib.Core.Path.{◌≡◌, refl}
use mathlib.Core.Bool.{Bool, true, false, ◌&&◌, not, false≢true}
use mathlib.Core.List.{List, [], ◌∷◌}
use lib.Dec.{eqb, leb}
use lib.ListN.{length}
use Rattle.ground.specs.Basics.{pick}
use Rattle.ground.specs.Scan.{free_of}
use Rattle.ground.specs.Verdict.{verdict, fine, counted, refused}
use Rattle.ground.specs.declared.Verdict.{Verdict}
use Rattle.ground.specs.declared.Answer.{Answer}
use Rattle.ground.proofs.Laws.{stored_refused}
use Rattle.output.specs.Output.{gated, fitted}
use Rattle.entry.specs.Record.{records_of, well_formed, name_of}
use Rattle.entry.specs.declared.EntryRecord.{EntryRecord}
use Rattle.tree_write.specs.Write.{refusal, judged, measured, tree_size, tree_answer}
use Rattle.loose_header.specs.Header.{loose_header, header_answer}
use Rattle.call.specs.Call.{none, ◌and◌, Refusal, Fits}
use Rattle.call.specs.Deeds.{of_answer}
use Rattle.tree_calls.specs.First.{OfWriting}
use Rattle.call.proofs.Laws.{answers_once, Of, done, zero, wider, added, keeps-reads, keeps-writes, hands_on, each-pick, each_passed, each_gate, each-fitted}

-- every way to judge records: 0, 10 at an index, and when they are to be written 9 at one
each-judged : (P : Verdict → Type 0) (writing : Bool) (most : ℕ) → P fine → ((i : ℕ) → i < most → P (verdict 10 i)) → ((i : ℕ) → i < most → writing ≡ true → P (verdict 9 i))
    → (h : ℕ) (bytes : List ℕ) (i : ℕ) (es : List EntryRecord) → i + length es ≤ most → P (judged writing h bytes i es)
unfolding judged refusal
each-judged P writing most ok ten nine h bytes i [] few = ok
each-judged P writing most ok ten nine h bytes i (e ∷ es) few =
    go (each-judged P writing most ok ten nine h bytes (i + 1) es (omega arith)) (well_formed h (length bytes) e) writing refl (free_of 0 (name_of bytes e))
  where
    go : P (judged writing h bytes (i + 1) es) → (well w : Bool) → writing ≡ w → (free : Bool) → let n : ℕ = pick well (pick (w && not free) 9 0) 10 in
        P (pick (eqb n 0) (judged writing h bytes (i + 1) es) (verdict n i))
    go rest false w q free = ten i (omega arith)
    go rest true true q true = rest
    go rest true true q false = nine i (omega arith) q
    go rest true false q free = rest

-- every way to measure: a count, or such a verdict
each-measured : (Q : Answer → Type 0) (writing : Bool) → ((n : ℕ) → Q (counted n)) → (h : ℕ) (bytes : List ℕ) (es : List EntryRecord)
    → ((i : ℕ) → i < length es → Q (refused (verdict 10 i))) → ((i : ℕ) → i < length es → writing ≡ true → Q (refused (verdict 9 i)))
    → Q (measured writing h bytes 0 0 es)
unfolding measured
each-measured Q writing count h bytes es ten nine =
    each_passed Q (judged writing h bytes 0 es) _ (count _)
    (each-judged (λ v. Refusal v → Q (refused v)) writing (length es) (λ z. absurd (z refl)) (λ i l z. ten i l) (λ i l w z. nine i l w) h bytes 0 es (omega arith))

-- every way to write a tree, and to ask for its size
module _ (Q : Answer → Type 0) (count : (n : ℕ) → Q (counted n)) (one : Q (refused (verdict 1 0))) (two : Q (refused (verdict 2 0)))
    (h : ℕ) (bytes records : List ℕ) (ten : (i : ℕ) → i < length (records_of records) → Q (refused (verdict 10 i))) where
  pub each-size-asked : Q (tree_size h bytes records)
  unfolding tree_size gated
  each-size-asked =
      each_gate (λ g. Q (gated g (measured false h bytes 0 0 (records_of records))))
      (each-measured Q false count h bytes (records_of records) ten (λ i l w. absurd (false≢true w))) one two h _ _

  pub each-written : ((i : ℕ) → i < length (records_of records) → Q (refused (verdict 9 i))) → (room : ℕ) → ((n : ℕ) → room < n → Q (refused (verdict 8 n)))
      → Q (tree_answer h bytes records room)
  unfolding tree_answer gated
  each-written nine room eight =
      each_gate (λ g. Q (gated g (fitted room (measured true h bytes 0 0 (records_of records)))))
      (each-fitted Q room _ (each-measured Q true count h bytes (records_of records) ten (λ i l w. nine i l)) eight) one two h _ _

-- every way to write a loose header: a count, 23, 8
pub each-header : (Q : Answer → Type 0) → ((n : ℕ) → Q (counted n)) → Q (refused (verdict 23 0)) → (kind size room : ℕ) → ((n : ℕ) → room < n → Q (refused (verdict 8 n)))
    → Q (header_answer kind size room)
unfolding header_answer
each-header Q count other kind size room eight =
    each-pick Q (leb 1 kind && leb kind 4) (fitted room (counted (length (loose_header kind size)))) (refused (verdict 23 0)) (each-fitted Q room _ (count _) eight) other

pub size_fits : (h : ℕ) (bytes records : List ℕ) → Fits (0 ∷ 1 ∷ 2 ∷ 10 ∷ []) (of_answer (tree_size h bytes records))
size_fits h bytes records = each-size-asked (Of _ of_answer) (λ n. done refl refl) (zero refl refl) (zero refl refl) h bytes records (λ i l. zero refl refl)

pub tree-fits : (h : ℕ) (bytes records : List ℕ) (room : ℕ) → Fits (0 ∷ 1 ∷ 2 ∷ 8 ∷ 9 ∷ 10 ∷ []) (of_answer (tree_answer h bytes records room))
tree-fits h bytes records room =
    each-written (Of _ of_answer) (λ n. done refl refl) (zero refl refl) (zero refl refl) h bytes records (λ i l. zero refl refl) (λ i l. zero refl refl) room (λ n l. zero refl refl)

pub header-fits : (kind size room : ℕ) → Fits (0 ∷ 8 ∷ 23 ∷ []) (of_answer (header_answer kind size room))
header-fits kind size room = each-header (Of _ of_answer) (λ n. done refl refl) (zero refl refl) kind size room (λ n l. zero refl refl)

pub of_writing : OfWriting
of_writing = record {
  tree_size = keeps-reads _ (λ i. tt) _ _ _ (λ i o m. m) (λ i. wider (size_fits _ _ _) refl);
  write_tree = keeps-writes _ (λ i. tt) _ _ _ _ _ _ (λ i o m. m) (λ i. wider (tree-fits _ _ _ _) refl) (λ i z. stored_refused _ _ _ z);
  loose_header = keeps-writes _ (λ i. tt) _ _ _ _ _ _ (λ i o m. m) (λ i. wider (header-fits _ _ _) refl) (λ i z. stored_refused _ _ _ z);
  digit_questions = ((λ i. tt), answers_once _ _ (λ i o m. m)) and none;
  fit = hands_on _ (λ i. tt) _ _ _ _ (λ i o m. m) (λ i handed f. each-fitted (Of _ of_answer) _ _ (added (8 ∷ []) f) (λ n l. zero refl refl));
}
