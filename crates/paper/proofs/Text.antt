-- The first demand of trees as text and from text. Assumes nothing.
use Prim.Native.Nat.{ℕ, zero, suc, ◌+◌, max}
use mathlib.Core.Path.{◌≡◌, refl, ap, sym, subst, ◌∙◌}
use mathlib.Core.Bool.{Bool, true, false}
use mathlib.Core.List.{List, [], ◌∷◌}
use lib.Dec.{eqb}
use borrow.Author.Tests.{eqb-false}
use lib.ListN.{length, take, drop}
use Rattle.ground.specs.Basics.{pick}
use Rattle.ground.specs.Verdict.{verdict, fine, counted, refused, most_records}
use Rattle.ground.specs.declared.Verdict.{Verdict}
use Rattle.ground.specs.declared.Answer.{Answer}
use Rattle.ground.proofs.Laws.{stored_refused}
use Rattle.output.specs.Output.{gated, fitted}
use Rattle.entry.specs.Entry.{Entry}
use Rattle.rules.specs.Rules.{is_text, modes_of, is_plain, is_dot_git, bare_number, or_else, git_rules}
use Rattle.rules.specs.Gate.{rule_gate}
use Rattle.rules.proofs.Laws.{rule_shut}
use Rattle.reading.specs.Listing.{tally}
use Rattle.reading.proofs.Laws.{answer-counted}
use Rattle.strict.specs.Strict.{strictly, strict_answer}
use Rattle.tree_export.specs.Export.{counted_in, export_answer}
use Rattle.tree_export.proofs.Laws.{stops_not-four, began}
use Rattle.text_record.specs.Record.{pared, front_mode, name_in, formed, said_number, text_number, entry_in, size_in}
use Rattle.text_import.specs.Lent.{too_many, lent_by, lent_answer}
use Rattle.text_import.specs.Import.{Texts, done, stop, one, read_from, texts, entries_in, ending, compare_same, name_same, any_before, repeated, import_verdict, imported, counted_of, import_answer}
use Rattle.call.specs.Call.{none, ◌and◌, Fits}
use Rattle.call.specs.Deeds.{of_answer}
use Rattle.paper.specs.Demand1.{OfText}
use Rattle.call.proofs.Laws as fits
use Rattle.call.proofs.Laws.{answers_once, same, one_list, wider, keeps, keeps-writes, keeps-stores, each_gate, each-fitted}
use Rattle.tree_calls.proofs.Reading.{each-strict}
use Rattle.std.specs.Prelude.{Err, Ok, Result, ⊤}

abbrev Exported : Answer → Type 0
Exported a = Fits (0 ∷ 1 ∷ 2 ∷ 3 ∷ 5 ∷ 6 ∷ 7 ∷ 8 ∷ 17 ∷ 18 ∷ 19 ∷ []) (of_answer a)

-- what strict reading answers, but 4
unless_four : (k h : ℕ) (s : List ℕ) → ((strict_answer k h s []).verdict.number ≡ 4 → ⊥) → Exported (strict_answer k h s [])
unless_four k h s =
    each-strict (λ a. (a.verdict.number ≡ 4 → ⊥) → Exported a) h s [] (λ n f. fits.done refl refl) (λ f. fits.zero refl refl) (λ f. fits.zero refl refl)
    (λ at k l p f. fits.zero refl p) (λ n l f. absurd (f refl)) (λ at l f. fits.zero refl refl) (λ at l f. fits.zero refl refl) (λ at l f. fits.zero refl refl)
    (λ at l f. fits.zero refl refl) (λ at l f. fits.zero refl refl) (λ f. fits.zero refl refl) k

counted-fits : (k h : ℕ) (s : List ℕ) → rule_gate k h (length s) 0 ≡ Ok tt → Exported (counted_in h s (tally 0 (strictly (git_rules k) h s)))
unfolding counted_in
counted-fits k h s g = go (tally 0 (strictly (git_rules k) h s)) refl
  where
    go : (c : Result ℕ Verdict) → tally 0 (strictly (git_rules k) h s) ≡ c → Exported (counted_in h s c)
    go (Ok n) t = fits.done refl refl
    go (Err v) t =
        let e : strict_answer k h s [] ≡ refused v = answer-counted (strictly (git_rules k) h s) (rule_gate k h (length s) 0) 0 g t in
        subst Exported e (unless_four k h s (λ z. stops_not-four k h s v t (sym (ap (λ (a : Answer). a.verdict.number) e) ∙ z)))

pub export_fits : (k h : ℕ) (s : List ℕ) (room : ℕ) → Exported (export_answer k h s room)
unfolding export_answer gated
export_fits k h s room = go (rule_gate k h (max (length s) room) 0) refl
  where
    go : (g : Result ⊤ Verdict) → rule_gate k h (max (length s) room) 0 ≡ g → Exported (gated g (fitted room (counted_in h s (tally 0 (strictly (git_rules k) h s)))))
    go (Ok tt) q = each-fitted Exported room _ (counted-fits k h s (began k h s room (max (length s) room) refl q).0) (λ n l. fits.zero refl refl)
    go (Err v) q = rule_shut (λ v. Exported (refused v)) (fits.zero refl refl) (fits.zero refl refl) (fits.zero refl refl) k h (max (length s) room) 0 v q

-- ---- from text

-- once the bounds are seen
abbrev Counts : Answer → Type 0
Counts a = Fits (0 ∷ 1 ∷ 2 ∷ 5 ∷ 6 ∷ 7 ∷ 8 ∷ 17 ∷ 18 ∷ 20 ∷ []) (of_answer a)

each_bare : (P : ℕ → Type 0) → P 0 → P 6 → P 18 → (n : List ℕ) → P (bare_number n)
unfolding bare_number
each_bare P a b c n = go (is_plain n) (is_dot_git n)
  where
    go : (u v : Bool) → P (or_else (pick u 0 6) (pick v 18 0))
    go true true = c
    go true false = a
    go false v = b

each-text : (P : ℕ → Type 0) → P 0 → P 5 → P 6 → P 18 → P 20 → (k h : ℕ) (b : List ℕ) → P (text_number k h b)
unfolding text_number said_number
each-text P a b c d e k h s = go (formed h s) (is_text (modes_of k) (pared (take 6 s))) (eqb (front_mode (modes_of k) s) 0)
  where
    go : (u v w : Bool) → P (pick u (pick v (pick w 20 (bare_number (name_in h s))) 5) 20)
    go true true true = e
    go true true false = each_bare P a c d (name_in h s)
    go true false w = b
    go false v w = e

each-ending : (P : Verdict → Type 0) → P fine → P (verdict 2 0) → ((k h at : ℕ) (b : List ℕ) → (text_number k h b ≡ 0 → ⊥) → P (verdict (text_number k h b) at)) → (k h left at : ℕ) (b : List ℕ)
    → P (ending (read_from k h left at b))
unfolding ending read_from
each-ending P a b c k h zero at [] = a
each-ending P a b c k h zero at (x ∷ xs) = b
each-ending P a b c k h (suc left) at [] = a
each-ending P a b c k h (suc left) at (x ∷ xs) =
    go (eqb (text_number k h (x ∷ xs)) 0) refl (each-ending P a b c k h left (at + size_in h (x ∷ xs)) (drop (size_in h (x ∷ xs)) (x ∷ xs)))
  where
    go : (u : Bool) → eqb (text_number k h (x ∷ xs)) 0 ≡ u → P (ending (read_from k h left (at + size_in h (x ∷ xs)) (drop (size_in h (x ∷ xs)) (x ∷ xs))))
        → P (ending (pick u (one at (entry_in k h (x ∷ xs)) (read_from k h left (at + size_in h (x ∷ xs)) (drop (size_in h (x ∷ xs)) (x ∷ xs))))
        (stop (verdict (text_number k h (x ∷ xs)) at))))
    go true q p = p
    go false q p = c k h at (x ∷ xs) (eqb-false (text_number k h (x ∷ xs)) 0 q)

each-repeated : (P : Verdict → Type 0) (n : ℕ) → P fine → ((at : ℕ) → P (verdict n at)) → (same : Entry → Entry → Bool) (before : List Entry) (t : Texts)
    → P (repeated n same before t)
unfolding repeated
each-repeated P n a b same before done = a
each-repeated P n a b same before (stop v) = a
each-repeated P n a b same before (one at e l) = go (any_before same before e) (each-repeated P n a b same (e ∷ before) l)
  where
    go : (u : Bool) → P (repeated n same (e ∷ before) l) → P (pick u (verdict n at) (repeated n same (e ∷ before) l))
    go true p = b at
    go false p = p

abbrev Refuses : Verdict → Type 0
Refuses v = Counts (refused v)

verdict-fits : (k h : ℕ) (s : List ℕ) → Counts (refused (import_verdict (texts k h s)))
unfolding import_verdict
verdict-fits k h s =
    go (eqb (ending (texts k h s)).number 0) (eqb (repeated 7 compare_same [] (texts k h s)).number 0)
    (each-ending Refuses (fits.zero refl refl) (fits.zero refl refl)
    (λ k h at b. each-text (λ (n : ℕ). (n ≡ 0 → ⊥) → Refuses (verdict n at)) (λ f. absurd (f refl)) (λ f. fits.zero refl refl) (λ f. fits.zero refl refl)
    (λ f. fits.zero refl refl) (λ f. fits.zero refl refl) k h b) k h most_records 0 s)
    (each-repeated Refuses 7 (fits.zero refl refl) (λ at. fits.zero refl refl) compare_same [] (texts k h s))
    (each-repeated Refuses 17 (fits.zero refl refl) (λ at. fits.zero refl refl) name_same [] (texts k h s))
  where
    go : (u v : Bool) → Refuses (ending (texts k h s)) → Refuses (repeated 7 compare_same [] (texts k h s)) → Refuses (repeated 17 name_same [] (texts k h s))
        → Refuses (pick u (pick v (repeated 17 name_same [] (texts k h s)) (repeated 7 compare_same [] (texts k h s))) (ending (texts k h s)))
    go true true a b c = c
    go true false a b c = b
    go false v a b c = a

counted_imports : (k h : ℕ) (s : List ℕ) → Counts (counted_of (texts k h s))
unfolding counted_of
counted_imports k h s = go (eqb (import_verdict (texts k h s)).number 0)
  where
    go : (u : Bool) → Counts (pick u (counted (length (imported (texts k h s)))) (refused (import_verdict (texts k h s))))
    go true = fits.done refl refl
    go false = verdict-fits k h s

abbrev Imported : Answer → Type 0
Imported a = Fits (0 ∷ 1 ∷ 2 ∷ 5 ∷ 6 ∷ 7 ∷ 8 ∷ 17 ∷ 18 ∷ 19 ∷ 20 ∷ []) (of_answer a)

pub import_fits : (k h : ℕ) (s : List ℕ) (room : ℕ) → Imported (import_answer k h s room)
unfolding import_answer gated
import_fits k h s room = go (rule_gate k h (max (length s) room) 0) refl
  where
    go : (g : Result ⊤ Verdict) → rule_gate k h (max (length s) room) 0 ≡ g → Imported (gated g (fitted room (counted_of (texts k h s))))
    go (Ok tt) q = each-fitted Imported room _ (wider (counted_imports k h s) refl) (λ n l. fits.zero refl refl)
    go (Err v) q = rule_shut (λ v. Imported (refused v)) (fits.zero refl refl) (fits.zero refl refl) (fits.zero refl refl) k h (max (length s) room) 0 v q

-- with lent memory
abbrev Lends : Answer → Type 0
Lends a = Fits (0 ∷ 1 ∷ 2 ∷ 4 ∷ 5 ∷ 6 ∷ 7 ∷ 8 ∷ 17 ∷ 18 ∷ 20 ∷ []) (of_answer a)

pub lent_fits : (k h : ℕ) (s : List ℕ) (room size : ℕ) → Lends (lent_answer k h s room size)
unfolding lent_answer lent_by gated
lent_fits k h s room size =
    each_gate (λ (g : Result ⊤ Verdict). Lends (gated g (lent_by (texts k h s) room size))) (go (too_many (texts k h s) size)) (fits.zero refl refl) (fits.zero refl refl)
    h (length s) 0
  where
    go : (b : Bool) → Lends (pick b (refused (verdict 4 (length (entries_in (texts k h s))))) (fitted room (counted_of (texts k h s))))
    go true = fits.zero refl refl
    go false = each-fitted Lends room _ (wider (counted_imports k h s) refl) (λ n l. fits.zero refl refl)

pub of_text : OfText
of_text = record {
  text_questions =
      ((λ i. tt), answers_once _ _ (λ i o m. m))
      and ((λ i. tt), answers_once _ _ (λ i o m. m))
      and ((λ i. tt), answers_once _ _ (λ i o m. m))
      and ((λ i. tt), answers_once _ _ (λ i o m. m))
      and ((λ i. tt), answers_once _ _ (λ i o m. m))
      and ((λ i. tt), answers_once _ _ (λ i o m. m))
      and ((λ i. tt), answers_once _ _ (λ i o m. m))
      and ((λ i. tt), answers_once _ _ (λ i o m. m))
      and none;
  judge_list = keeps-stores _ (λ i. tt) _ _ _ _ (λ i o m. m);
  import_lent = keeps _ _ (λ i. tt) (record {
    answers = λ i. _;
    hands = λ i. _;
    leaves = λ i. _;
    says = λ i. _;
    told = λ i o m. (m.0, m.1.1, one_list m.1.0, ap of_answer m.0);
  }) (λ i. wider (lent_fits _ _ i.args.0.now _ _) refl) (λ i z. one_list (stored_refused _ _ _ z));
  import_tree = keeps-writes _ (λ i. tt) _ _ _ _ _ _ (λ i o m. m) (λ i. wider (import_fits _ _ i.args.0.now _) refl) (λ i z. stored_refused _ _ _ z);
  export_tree = keeps-writes _ (λ i. tt) _ _ _ _ _ _ (λ i o m. m) (λ i. wider (export_fits _ _ i.args.0.now _) refl) (λ i z. stored_refused _ _ _ z);
}
