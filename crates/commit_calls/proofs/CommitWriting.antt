-- The first demand of writing commits. Assumes nothing.
use Prim.Native.Nat.{ℕ, suc, ◌<◌}
use native.Mathlib.Omega.{arith}
use mathlib.Core.Path.{◌≡◌, refl, ap}
use mathlib.Core.Bool.{Bool, true, false, ◌&&◌, not}
use mathlib.Core.List.{List, [], ◌∷◌}
use lib.Dec.{eqb}
use borrow.Author.Tests.{eqb-false}
use lib.ListN.{length}
use Rattle.ground.specs.Basics.{pick}
use Rattle.ground.specs.Scan.{free_of}
use Rattle.ground.specs.Verdict.{verdict, fine, counted, refused}
use Rattle.ground.specs.declared.Verdict.{Verdict}
use Rattle.ground.specs.declared.Answer.{Answer}
use Rattle.ground.proofs.Laws.{stored_refused}
use Rattle.header.specs.declared.CommitParts.{CommitParts}
use Rattle.grammar.specs.Grammar.{Encoding, absent, given}
use Rattle.commit_check.specs.Check.{headers_of, tests, passing, judged, after, checked}
use Rattle.commit_write.specs.Write.{encoding_named, measured, encoding_refusal, encoded, commit_size, commit_answer}
use Rattle.call.specs.Call.{Refusal, Fits}
use Rattle.call.specs.Deeds.{of_verdict, of_answer}
use Rattle.commit_calls.specs.First.{OfCommitWriting}
use Rattle.call.proofs.Laws.{Of, done, zero, wider, keeps-reads, keeps-writes, each_passed, each_gate, each-fitted}

-- where not all pass, the first that does not is one of them
passing_less : (l : List Bool) → (passing l ≡ length l → ⊥) → passing l < length l
passing_less [] f = absurd (f refl)
passing_less (true ∷ l) f = let r : passing l < length l = passing_less l (λ e. f (ap suc e)) in omega arith
passing_less (false ∷ l) f = omega arith

-- every way to check a commit: 0, 1, 2, 10 at a record
pub each-checked : (P : Verdict → Type 0) → P fine → P (verdict 1 0) → P (verdict 2 0) → (h : ℕ) (bytes : List ℕ) (p : CommitParts) (parents headers : List ℕ) (room : ℕ)
    → ((i : ℕ) → i < length (tests h bytes p parents (headers_of headers)) → P (verdict 10 i)) → P (checked h bytes p parents headers room)
unfolding checked after judged
each-checked P ok one two h bytes p parents headers room ten = each_gate (λ g. P (after g (judged l))) (held (eqb (passing l) (length l)) refl) one two h _ _
  where
    l : List Bool
    l = tests h bytes p parents (headers_of headers)

    held : (b : Bool) → eqb (passing l) (length l) ≡ b → P (pick b fine (verdict 10 (passing l)))
    held true q = ok
    held false q = ten (passing l) (passing_less l (eqb-false (passing l) (length l) q))

-- every way to hold an answer to the encoding: as it was, 13, 14
each-encoded : (Q : Answer → Type 0) → Q (refused (verdict 13 0)) → Q (refused (verdict 14 0)) → (e : Encoding) (a : Answer) → Q a → Q (encoded e a)
unfolding encoded encoding_refusal
each-encoded Q thirteen fourteen e a was = go (eqb a.verdict.number 0) e
  where
    held : ℕ → Bool → Answer
    held n b = pick (b && not (eqb n 0)) (refused (verdict n 0)) a

    line : (free : Bool) → Q (held (pick free 0 14) true)
    line true = was
    line false = fourteen

    go : (b : Bool) (e : Encoding) → Q (held (encoding_refusal e) b)
    go false e = was
    go true absent = was
    go true (given []) = thirteen
    go true (given (c ∷ cs)) = line (free_of 10 (c ∷ cs))

-- every way to write a commit: a count, 1, 2, 10, 13, 14, 8; and to ask for its size: a count, 1, 2, 10
module _ (Q : Answer → Type 0) (count : (n : ℕ) → Q (counted n)) (one : Q (refused (verdict 1 0))) (two : Q (refused (verdict 2 0)))
    (h : ℕ) (bytes : List ℕ) (p : CommitParts) (parents headers : List ℕ)
    (ten : (i : ℕ) → i < length (tests h bytes p parents (headers_of headers)) → Q (refused (verdict 10 i))) where
  pub each-measured : (room : ℕ) → Q (measured h bytes p parents headers room)
  unfolding measured
  each-measured room =
      each_passed Q (checked h bytes p parents headers room) _ (count _)
      (each-checked (λ v. Refusal v → Q (refused v)) (λ z. absurd (z refl)) (λ z. one) (λ z. two) h bytes p parents headers room (λ i l z. ten i l))

  pub each-written : Q (refused (verdict 13 0)) → Q (refused (verdict 14 0)) → (room : ℕ) → ((n : ℕ) → room < n → Q (refused (verdict 8 n)))
      → Q (commit_answer h bytes p parents headers room)
  unfolding commit_answer
  each-written thirteen fourteen room eight =
      each-fitted Q room _ (each-encoded Q thirteen fourteen (encoding_named bytes p) (measured h bytes p parents headers room) (each-measured room)) eight

pub size_fits : (h : ℕ) (bytes : List ℕ) (p : CommitParts) (parents headers : List ℕ) → Fits (0 ∷ 1 ∷ 2 ∷ 10 ∷ []) (of_answer (commit_size h bytes p parents headers))
size_fits h bytes p parents headers =
    each-measured (Of _ of_answer) (λ n. done refl refl) (zero refl refl) (zero refl refl) h bytes p parents headers (λ i l. zero refl refl) 0

pub commit-fits : (h : ℕ) (bytes : List ℕ) (p : CommitParts) (parents headers : List ℕ) (room : ℕ)
    → Fits (0 ∷ 1 ∷ 2 ∷ 8 ∷ 10 ∷ 13 ∷ 14 ∷ []) (of_answer (commit_answer h bytes p parents headers room))
commit-fits h bytes p parents headers room =
    each-written (Of _ of_answer) (λ n. done refl refl) (zero refl refl) (zero refl refl) h bytes p parents headers (λ i l. zero refl refl)
    (zero refl refl) (zero refl refl) room (λ n l. zero refl refl)

pub of_commit_writing : OfCommitWriting
of_commit_writing = record {
  check_commit = keeps-reads _ (λ i. tt) _ _ _ (λ i o m. m) (λ i. each-checked (Of _ of_verdict) (done refl refl) (zero refl refl) (zero refl refl) _ _ _ _ _ _ (λ i l. zero refl refl));
  commit_size = keeps-reads _ (λ i. tt) _ _ _ (λ i o m. m) (λ i. wider (size_fits _ _ _ _ _) refl);
  write_commit = keeps-writes _ (λ i. tt) _ _ _ _ _ _ (λ i o m. m) (λ i. wider (commit-fits _ _ _ _ _ _) refl) (λ i z. stored_refused _ _ _ z);
}
