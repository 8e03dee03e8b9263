-- The first demand of the lookup. Assumes nothing.
use Prim.Native.Nat.{ℕ, ◌+◌, ◌≤◌, ◌<◌, max}
use native.Mathlib.Omega.{arith}
use mathlib.Core.Path.{◌≡◌, refl, sym, subst}
use mathlib.Core.Bool.{Bool, true, false}
use mathlib.Core.List.{List, [], ◌∷◌}
use seplogic.Ra.Ura.{Ura}
use base.Logic.{ent, sep, emp, id⊢, fst∗, snd∗}
use contract.Monad.{fact, fact_i, fact_mono, fact_use}
use lib.Dec.{eqb, leb}
use lib.ListN.{length}
use Rattle.ground.specs.Basics.{pick}
use Rattle.ground.specs.Verdict.{verdict, fine, gate_of}
use Rattle.ground.specs.declared.Verdict.{Verdict}
use Rattle.ground.proofs.Laws.{stored_refused}
use Rattle.output.specs.Output.{gated}
use Rattle.entry.specs.declared.EntryRecord.{EntryRecord}
use Rattle.lookup.specs.Halving.{Met, bad, met, found, absent, declined, mid, search_from}
use Rattle.lookup.specs.Lookup.{compare_entry, compare_at, behind, lookup_in, afterwards, any_in}
use Rattle.probe.specs.Probe.{aimed_of, stopped_of, start_of, moved_of, ready, probe_step, answer_of}
use Rattle.lookup.specs.declared.Looked.{Looked}
use Rattle.probe.specs.declared.Query.{Query}
use Rattle.probe.specs.declared.Probe.{Probe}
use Rattle.lookup.proofs.Laws.{mid-high, by_turns}
use Rattle.probe.proofs.Going.{start_open, start-shut}
use Rattle.lookups.specs.Many.{many, sought_of, one_answer, first_bad, unless_bad, and_room, first_gate, many_answer}
use Rattle.lookups.specs.declared.Sought.{Sought}
use Rattle.call.specs.Call.{none, ◌and◌, Fits}
use Rattle.call.specs.Deeds.{of_answer}
use Rattle.tree_calls.specs.Calls.{of_looked}
use Rattle.tree_calls.specs.First.{OfLookup}
use Rattle.call.proofs.Laws.{answers_once, same, Of, done, zero, wider, added, keeps-reads, keeps-writes, hands_on, each-pick, each_gate}
use Rattle.std.specs.Prelude.{Err, Ok}
use Rattle.std.specs.declared.cmp.Ordering.TheVariants.{Equal, Greater, Less}

-- every way to search among n records: found, 15, 10 at a record
each_search : (Q : Looked → Type 0) → ((i c : ℕ) → Q (found i c)) → ((c : ℕ) → Q (absent c))
    → (f : ℕ → Met) (n : ℕ) → ((i : ℕ) → i < n → Q (declined (verdict 10 i))) → Q (search_from f 0 n 0)
each_search Q there gone f n ten = by_turns f (λ low high c r. high ≤ n → Q r) (record {
  ended = λ low high c l m. gone c;
  broken = λ low high c l e m. ten (mid low high) (omega (arith, mid-high l));
  below = λ low high c r l e q. q;
  same = λ low high c l e m. there (mid low high) (c + 1);
  above = λ low high c r l e q m. q (omega (arith, mid-high l));
}) 0 n 0 (omega arith)

-- every way to look up: found, 15, 1, 2, 10 at a record
pub each-looked : (Q : Looked → Type 0) → ((i c : ℕ) → Q (found i c)) → ((c : ℕ) → Q (absent c)) → Q (declined (verdict 1 0)) → Q (declined (verdict 2 0))
    → (h : ℕ) (object : List ℕ) (records : List EntryRecord) (name : List ℕ) (folder : Bool) → ((i : ℕ) → i < length records → Q (declined (verdict 10 i)))
    → Q (lookup_in h object records name folder)
unfolding lookup_in
each-looked Q there gone one two h object records name folder ten =
    each_gate (λ g. Q (behind g (search_from (compare_at h object records name folder) 0 (length records) 0)))
    (each_search Q there gone (compare_at h object records name folder) (length records) ten) one two h _ (length records)

-- and so it is with a name of any sort
each-any : (Q : Looked → Type 0) → ((i c : ℕ) → Q (found i c)) → ((c : ℕ) → Q (absent c)) → Q (declined (verdict 1 0)) → Q (declined (verdict 2 0))
    → (h : ℕ) (object : List ℕ) (records : List EntryRecord) (name : List ℕ) → ((i : ℕ) → i < length records → Q (declined (verdict 10 i)))
    → Q (any_in h object records name)
unfolding lookup_in any_in
each-any Q there gone one two h object records name ten =
    each_gate (λ g. Q (both (behind g (search false)) (behind g (search true))))
    (each_search (λ x. Q (both x (search true))) there
    (λ c. each_search (λ y. Q (afterwards c y)) (λ i d. there i (c + d)) (λ d. gone (c + d)) (compare_at h object records name true) (length records) ten)
    (compare_at h object records name false) (length records) ten)
    one two h _ (length records)
  where
    search : Bool → Looked
    search folder = search_from (compare_at h object records name folder) 0 (length records) 0

    both : Looked → Looked → Looked
    both x y = pick (eqb x.verdict.number 15) (afterwards x.compared y) x

pub looked-fits : (h : ℕ) (object : List ℕ) (records : List EntryRecord) (name : List ℕ) (folder : Bool)
    → Fits (0 ∷ 1 ∷ 2 ∷ 10 ∷ 15 ∷ []) (of_looked (lookup_in h object records name folder))
looked-fits h object records name folder =
    each-looked (Of _ of_looked) (λ i c. done refl refl) (λ c. record { known = refl; empty = λ z y. absurd (y refl) }) (zero refl refl) (zero refl refl)
    h object records name folder (λ i l. zero refl refl)

-- ---- a search that is stepped

-- a search that found nothing yet holds 15
aimed_fits : (handed : List ℕ) (low high c : ℕ) → Fits (0 ∷ 10 ∷ 15 ∷ handed) (of_looked (aimed_of low high c).looked)
unfolding aimed_of
aimed_fits handed low high c = record { known = refl; empty = λ z y. absurd (y refl) }

start_fits : (object name n : ℕ) (q : Query) → Fits (1 ∷ 2 ∷ 15 ∷ []) (of_looked (start_of object name n q).looked)
unfolding aimed_of stopped_of
start_fits object name n q =
    each_gate (λ g. gate_of q.h most n ≡ g → Holds (start_of object name n q))
    (λ e. subst Holds (sym (start_open object name n q most refl e)) (record { known = refl; empty = λ z y. absurd (y refl) }))
    (λ e. subst Holds (sym (start-shut object name n q most refl (verdict 1 0) e)) (zero refl refl))
    (λ e. subst Holds (sym (start-shut object name n q most refl (verdict 2 0) e)) (zero refl refl)) q.h most n refl
  where
    most : ℕ
    most = max object name

    Holds : Probe → Type 0
    Holds p = Fits (1 ∷ 2 ∷ 15 ∷ []) (of_looked p.looked)

step_fits : (object name : List ℕ) (q : Query) (p : Probe) (e : EntryRecord) (handed : List ℕ) → Fits handed (of_looked p.looked)
    → Fits (0 ∷ 10 ∷ 15 ∷ handed) (of_looked (probe_step object name q p e).looked)
unfolding probe_step stopped_of
step_fits object name q p e handed f =
    each-pick (λ x. Fits (0 ∷ 10 ∷ 15 ∷ handed) (of_looked x.looked)) (ready p) (moved_of p (compare_entry q.h object name q.folder e)) p
    (go (compare_entry q.h object name q.folder e)) (added (0 ∷ 10 ∷ 15 ∷ []) f)
  where
    go : (m : Met) → Fits (0 ∷ 10 ∷ 15 ∷ handed) (of_looked (moved_of p m).looked)
    go bad = zero refl refl
    go (met Less) = aimed_fits handed _ _ _
    go (met Equal) = done refl refl
    go (met Greater) = aimed_fits handed _ _ _

pub any-fits : (h : ℕ) (object : List ℕ) (records : List EntryRecord) (name : List ℕ) → Fits (0 ∷ 1 ∷ 2 ∷ 10 ∷ 15 ∷ []) (of_looked (any_in h object records name))
any-fits h object records name =
    each-any (Of _ of_looked) (λ i c. done refl refl) (λ c. record { known = refl; empty = λ z y. absurd (y refl) }) (zero refl refl) (zero refl refl)
    h object records name (λ i l. zero refl refl)

-- the verdict on many names: 0, or 10 at one
each_first : (Q : Verdict → Type 0) → Q fine → ((i : ℕ) → Q (verdict 10 i)) → (f : Sought → Looked) (i : ℕ) (qs : List Sought) → Q (first_bad f i qs)
unfolding first_bad
each_first Q done ten f i [] = done
each_first Q done ten f i (q ∷ qs) = each-pick Q (eqb (f q).verdict.number 10) (verdict 10 i) (first_bad f (i + 1) qs) (ten i) (each_first Q done ten f (i + 1) qs)

pub many-fits : (h : ℕ) (object records names sought : List ℕ) (numbers : ℕ)
    → Fits (0 ∷ 1 ∷ 2 ∷ 4 ∷ 10 ∷ []) (of_answer (many_answer h object records names sought numbers))
unfolding many_answer first_gate gated
many-fits h object records names sought numbers =
    each_gate (λ g. Fits all (of_answer (gated (and_room n (many numbers) g) (unless_bad (first_bad f 0 qs) n))))
    (each-pick (λ g. Fits all (of_answer (gated g (unless_bad (first_bad f 0 qs) n)))) (leb n (many numbers)) (Ok tt) (Err (verdict 4 n))
    (each_first (λ v. Fits all (of_answer (unless_bad v n))) (done refl refl) (λ i. zero refl refl) f 0 qs) (zero refl refl))
    (zero refl refl) (zero refl refl) h _ _
  where
    all : List ℕ
    all = 0 ∷ 1 ∷ 2 ∷ 4 ∷ 10 ∷ []

    f : Sought → Looked
    f = one_answer h object records names

    qs : List Sought
    qs = sought_of sought

    n : ℕ
    n = many (length sought)

-- what follows from two facts follows from both as assertions
two_facts : {M : Type 1} (𝓤 : Ura M) (φ ψ χ : Type 0) → (φ → ψ → χ) → ent 𝓤 (sep 𝓤 (fact 𝓤 φ) (fact 𝓤 ψ)) (fact 𝓤 χ)
two_facts 𝓤 φ ψ χ f =
    let both = sep 𝓤 (fact 𝓤 φ) (fact 𝓤 ψ) in
    fact_use 𝓤 φ (fst∗ 𝓤 (fact 𝓤 φ) (fact 𝓤 ψ)) (λ p. fact_use 𝓤 ψ (snd∗ 𝓤 (fact 𝓤 φ) (fact 𝓤 ψ)) (λ q. fact_i 𝓤 χ both (f p q)))

pub of_lookup : OfLookup
unfolding answer_of
of_lookup = record {
  bisect_entry = keeps-reads _ (λ i. tt) _ _ _ (λ i o m. m) (λ i. wider (looked-fits _ _ _ _ _) refl);
  bisect_any = keeps-reads _ (λ i. tt) _ _ _ (λ i o m. m) (λ i. wider (any-fits _ _ _ _) refl);
  bisect_array = keeps-reads _ (λ i. tt) _ _ _ (λ i o m. m) (λ i. wider (looked-fits _ _ _ _ _) refl);
  bisect_records = record {
    takes = λ M 𝓤 𝓛 mem run κs a. (tt, id⊢ 𝓤 (emp 𝓤));
    once = λ M 𝓤 𝓛 mem run κs a g x y w v. two_facts 𝓤 _ _ (x ≡ y) same;
    fits = λ M 𝓤 𝓛 mem run κs a g x w. fact_mono 𝓤 _ _ (λ p. subst (Of _ of_looked) (sym p) (wider (looked-fits _ _ _ _ _) refl));
  };
  bisect_entries = keeps-writes _ (λ i. tt) _ _ _ _ _ _ (λ i o m. m) (λ i. many-fits _ _ _ _ _ _) (λ i r. stored_refused _ _ _ r);
  lookup_start = keeps-reads _ (λ i. tt) _ _ _ (λ i o m. m) (λ i. start_fits _ _ _ _);
  lookup_step = hands_on _ (λ i. tt) _ _ _ _ (λ i o m. m) (λ i. step_fits _ _ _ _ _);
  lookup_answer = hands_on _ (λ i. tt) _ _ _ _ (λ i o m. m) (λ i handed f. f);
  lookup_questions = ((λ i. tt), answers_once _ _ (λ i o m. m)) and none;
}
