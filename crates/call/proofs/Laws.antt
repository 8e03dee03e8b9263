-- From the equations of a contract to the first demand, and the ways through a gate. Assumes nothing.
use Prim.Native.Nat.{ℕ, ◌≤◌, ◌<◌}
use mathlib.Core.Path.{◌≡◌, refl, sym, ap, subst, ◌∙◌}
use mathlib.Core.Bool.{Bool, true, false, false≢true, ◌&&◌, ◌||◌}
use mathlib.Core.List.{List, [], ◌∷◌, ◌++◌}
use lib.Dec.{leb, ltb, eqb}
use borrow.Author.Tests.{eqb-true, eqb-false, leb-true, leb-false, ltb-true}
use Rattle.ground.specs.Basics.{pick}
use Rattle.ground.specs.Verdict.{verdict, fine, counted, refused, most_bytes, most_records, id_length, size_gate, gate_of}
use Rattle.ground.specs.declared.Verdict.{Verdict}
use Rattle.ground.specs.declared.Answer.{Answer}
use Rattle.ground.proofs.Laws.{and_left, and_right}
use Rattle.output.specs.Output.{fitted}
use Rattle.call.specs.Call.{Call, Input, Outcome, Answered, Meets, TakesAll, OneAnswer, Deed, Said, among, listed, nothing, Refusal, Fits, Keeps, HandsOn}
use Rattle.call.specs.Deeds.{of_verdict, of_answer, reads, stores, writes, hands}
use Rattle.call.specs.Places.{Below, Over, at_record}
use Rattle.std.specs.Prelude.{Err, Ok, Result, ⊤}

-- two that are the same as a third
pub same : {A : Type 0} {x y z : A} → x ≡ z → y ≡ z → x ≡ y
same p q = p ∙ sym q

-- every answer that the contract allows is the same as a function's of what the call is handed: so no second one meets it
pub answers_once : (c : Call) (f : (i : Input c) → Answered c i) → ((i : Input c) (o : Outcome c i) → Meets c i o → o.answer ≡ f i) → OneAnswer c
answers_once c f told i o p m n = same (told i o m) (told i p n)

-- one list, and two, each the same as another
pub one_list : {l m : List ℕ} → l ≡ m → l ∷ [] ≡ m ∷ []
one_list e = ap (λ x. x ∷ []) e

pub two-lists : {l m k n : List ℕ} → l ≡ m → k ≡ n → l ∷ k ∷ [] ≡ m ∷ n ∷ []
two-lists p q = cc

-- ---- what fits

-- a verdict is one of these
abbrev pub Lists : List ℕ → Verdict → Type 0
Lists numbers v = listed numbers v ≡ true

-- what an answer says fits
abbrev pub Of : {X : Type 0} → List ℕ → (X → Said) → X → Type 0
Of numbers said x = Fits numbers (said x)

-- what is done
pub done : {numbers : List ℕ} {s : Said} → s.verdict.number ≡ 0 → Lists numbers s.verdict → Fits numbers s
done e k = record { known = k; empty = λ z y. absurd (z e) }

-- what counts nothing
pub zero : {numbers : List ℕ} {s : Said} → nothing s.counts ≡ true → Lists numbers s.verdict → Fits numbers s
zero e k = record { known = k; empty = λ z y. e }

-- every number of one list is among others
abbrev within : List ℕ → List ℕ → Bool
within [] numbers = true
within (k ∷ ks) numbers = among k numbers && within ks numbers

among-within : (n : ℕ) (few numbers : List ℕ) → within few numbers ≡ true → among n few ≡ true → among n numbers ≡ true
among-within n [] numbers w e = absurd (false≢true e)
among-within n (k ∷ ks) numbers w e = go (among-within n ks numbers (and_right (among k numbers) (within ks numbers) w)) (eqb n k) refl e
  where
    go : (among n ks ≡ true → among n numbers ≡ true) → (b : Bool) → eqb n k ≡ b → (b || among n ks) ≡ true → among n numbers ≡ true
    go rest true q e = rw (eqb-true n k q) (and_left (among k numbers) (within ks numbers) w)
    go rest false q e = rest e

-- what fits few numbers fits more
pub wider : {few numbers : List ℕ} {s : Said} → Fits few s → within few numbers ≡ true → Fits numbers s
wider {few} {numbers} {s} f w =
    let v = s.verdict in
    let a : among v.number numbers ≡ true = among-within v.number few numbers w (and_left (among v.number few) _ f.known) in
    record { known = rw a (and_right (among v.number few) _ f.known); empty = f.empty }

among-more : (n : ℕ) (few more : List ℕ) → among n more ≡ true → among n (few ++ more) ≡ true
among-more n [] more e = e
among-more n (k ∷ ks) more e = go (eqb n k) (among-more n ks more e)
  where
    go : (b : Bool) → among n (ks ++ more) ≡ true → (b || among n (ks ++ more)) ≡ true
    go true q = refl
    go false q = q

-- what fits some numbers fits them with others ahead
pub added : (numbers : List ℕ) {few : List ℕ} {s : Said} → Fits few s → Fits (numbers ++ few) s
added numbers {few} {s} f =
    let v = s.verdict in
    let a : among v.number (numbers ++ few) ≡ true = among-more v.number numbers few (and_left (among v.number few) _ f.known) in
    record { known = rw a (and_right (among v.number few) _ f.known); empty = f.empty }

-- ---- from a contract to the demand

-- what a contract makes of the arguments: the answer, the numbers handed over, what was lent at the end, and so what is said
pub record Tells (d : Deed) : Type 0 where
  pub answers : (i : Input d.call) → Answered d.call i
  pub hands : Input d.call → List ℕ
  pub leaves : Input d.call → List (List ℕ)
  pub says : Input d.call → Said
  pub told : (i : Input d.call) (o : Outcome d.call i) → Meets d.call i o
      → (o.answer ≡ answers i) × (d.handed i o ≡ hands i) × (d.after i o ≡ leaves i) × (d.said i o ≡ says i)

-- what the demand says of that it says of the call
pub keeps : (d : Deed) (numbers : List ℕ) → TakesAll d.call → (t : Tells d) → ((i : Input d.call) → Fits numbers (t.says i))
    → ((i : Input d.call) → Refusal (t.says i).verdict → t.leaves i ≡ d.before i) → Keeps d numbers
keeps d numbers takes t fits kept = record {
  takes = takes;
  once = λ i o p m n. let a = t.told i o m in let b = t.told i p n in (same a.0 b.0, same a.1 b.1, same a.2 b.2);
  fits = λ i o m. subst (Fits numbers) (sym (t.told i o m).3) (fits i);
  leaves = λ i o m z. (t.told i o m).2 ∙ kept i (λ e. z (ap (λ (s : Said). s.verdict.number) (t.told i o m).3 ∙ e));
}

-- a call that is lent nothing to write
pub keeps-reads : (c : Call) → TakesAll c → (said : (i : Input c) → Answered c i → Said) (numbers : List ℕ) (f : (i : Input c) → Answered c i)
    → ((i : Input c) (o : Outcome c i) → Meets c i o → o.answer ≡ f i) → ((i : Input c) → Fits numbers (said i (f i))) → Keeps (reads c said) numbers
keeps-reads c takes said numbers f told fits =
    keeps (reads c said) numbers takes (record {
      answers = f;
      hands = λ i. [];
      leaves = λ i. [];
      says = λ i. said i (f i);
      told = λ i o m. (told i o m, refl, refl, ap (said i) (told i o m));
    }) fits (λ i z. refl)

-- a call that is handed what another said
pub hands_on : (c : Call) → TakesAll c → (said : (i : Input c) → Answered c i → Said) (given : Input c → Said) (numbers : List ℕ) (f : (i : Input c) → Answered c i)
    → ((i : Input c) (o : Outcome c i) → Meets c i o → o.answer ≡ f i)
    → ((i : Input c) (handed : List ℕ) → Fits handed (given i) → Fits (numbers ++ handed) (said i (f i))) → HandsOn (reads c said) given numbers
hands_on c takes said given numbers f told fits = record {
  takes = takes;
  once = λ i o p m n. same (told i o m) (told i p n);
  fits = λ i o m handed g. subst (λ x. Fits (numbers ++ handed) (said i x)) (sym (told i o m)) (fits i handed g);
}

-- a call that writes, after its answer's verdict, to one thing lent
pub keeps-writes : (c : Call) → TakesAll c → (is : (i : Input c) → Answered c i → Answer) (before : Input c → List ℕ) (after : (i : Input c) → Outcome c i → List ℕ)
    (numbers : List ℕ) (f : (i : Input c) → Answered c i) (g : Input c → List ℕ)
    → ((i : Input c) (o : Outcome c i) → Meets c i o → (o.answer ≡ f i) × (after i o ≡ g i)) → ((i : Input c) → Fits numbers (of_answer (is i (f i))))
    → ((i : Input c) → Refusal (is i (f i)).verdict → g i ≡ before i) → Keeps (writes c is before after) numbers
keeps-writes c takes is before after numbers f g told fits kept =
    keeps (writes c is before after) numbers takes (record {
      answers = f;
      hands = λ i. [];
      leaves = λ i. g i ∷ [];
      says = λ i. of_answer (is i (f i));
      told = λ i o m. ((told i o m).0, refl, one_list (told i o m).1, ap (λ x. of_answer (is i x)) (told i o m).0);
    }) fits (λ i z. one_list (kept i z))

-- a call that only stores
pub keeps-stores : (c : Call) → TakesAll c → (before : Input c → List ℕ) (after : (i : Input c) → Outcome c i → List ℕ) (f : (i : Input c) → Answered c i) (g : Input c → List ℕ)
    → ((i : Input c) (o : Outcome c i) → Meets c i o → (o.answer ≡ f i) × (after i o ≡ g i)) → Keeps (stores c before after) (0 ∷ [])
keeps-stores c takes before after f g told =
    keeps (stores c before after) (0 ∷ []) takes (record {
      answers = f;
      hands = λ i. [];
      leaves = λ i. g i ∷ [];
      says = λ i. of_verdict fine;
      told = λ i o m. ((told i o m).0, refl, one_list (told i o m).1, refl);
    }) (λ i. done refl refl) (λ i z. absurd (z refl))

-- a call that hands its answer over in lent numbers
pub keeps-hands : (c : Call) → TakesAll c → (handed : (i : Input c) → Outcome c i → List ℕ) (says : List ℕ → Said) (before : Input c → List (List ℕ))
    (after : (i : Input c) → Outcome c i → List (List ℕ)) (numbers : List ℕ) (f : (i : Input c) → Answered c i) (n : Input c → List ℕ) (g : Input c → List (List ℕ))
    → ((i : Input c) (o : Outcome c i) → Meets c i o → (o.answer ≡ f i) × (handed i o ≡ n i) × (after i o ≡ g i)) → ((i : Input c) → Fits numbers (says (n i)))
    → ((i : Input c) → Refusal (says (n i)).verdict → g i ≡ before i) → Keeps (hands c handed says before after) numbers
keeps-hands c takes handed says before after numbers f n g told fits kept =
    keeps (hands c handed says before after) numbers takes (record {
      answers = f;
      hands = n;
      leaves = g;
      says = λ i. says (n i);
      told = λ i o m. let t = told i o m in (t.0, t.1, t.2, ap says t.1);
    }) fits kept

-- ---- every way through a test and a gate

pub each-pick : {A : Type 0} (Q : A → Type 0) (b : Bool) (x y : A) → Q x → Q y → Q (pick b x y)
each-pick Q true x y p q = p
each-pick Q false x y p q = q

-- what is counted where nothing refuses it
pub each_passed : (Q : Answer → Type 0) (v : Verdict) (n : ℕ) → Q (counted n) → (Refusal v → Q (refused v)) → Q (pick (eqb v.number 0) (counted n) (refused v))
each_passed Q v n count refuses = go (eqb v.number 0) refl
  where
    go : (b : Bool) → eqb v.number 0 ≡ b → Q (pick b (counted n) (refused v))
    go true q = count
    go false q = refuses (eqb-false v.number 0 q)

-- open, 2
pub each-size : (Q : Result ⊤ Verdict → Type 0) → Q (Ok tt) → Q (Err (verdict 2 0)) → (bytes records : ℕ) → Q (size_gate bytes records)
unfolding size_gate
each-size Q begun two bytes records = each-pick Q (leb bytes most_bytes && leb records most_records) (Ok tt) (Err (verdict 2 0)) begun two

-- open, 1, 2
pub each_gate : (Q : Result ⊤ Verdict → Type 0) → Q (Ok tt) → Q (Err (verdict 1 0)) → Q (Err (verdict 2 0)) → (h bytes records : ℕ) → Q (gate_of h bytes records)
unfolding gate_of
each_gate Q begun one two h bytes records =
    each-pick Q (id_length h) (size_gate bytes records) (Err (verdict 1 0)) (each-size Q begun two bytes records) one

-- as it was, 8 with more than the room: an answer that is held to the room that is lent
pub each-fitted : (Q : Answer → Type 0) (room : ℕ) (a : Answer) → Q a → ((n : ℕ) → room < n → Q (refused (verdict 8 n))) → Q (fitted room a)
unfolding fitted
each-fitted Q room a was eight = go (eqb a.verdict.number 0) (ltb room a.count) refl
  where
    go : (b c : Bool) → ltb room a.count ≡ c → Q (pick (b && c) (refused (verdict 8 a.count)) a)
    go true true q = eight a.count (ltb-true room a.count q)
    go true false q = was
    go false c q = was

-- one of two, by whether a number is within another
pub each_within : {A : Type 0} (Q : A → Type 0) (n most : ℕ) (x y : A) → (n ≤ most → Q x) → (most < n → Q y) → Q (pick (leb n most) x y)
each_within Q n most x y inside over = go (leb n most) refl
  where
    go : (b : Bool) → leb n most ≡ b → Q (pick b x y)
    go true q = inside (leb-true n most q)
    go false q = over (leb-false n most q)

-- ---- places

-- a number that is not among them
pub never : {A : Type 0} → false ≡ true → A
never e = absurd (false≢true e)

-- a record, and more bytes than there is room for
abbrev pub Indexed : ℕ → Answer → Type 0
Indexed most x = Below at_record most x.verdict

abbrev pub Short : ℕ → Answer → Type 0
Short room x = Over (8 ∷ []) room x.verdict

abbrev pub Wrote : ℕ → ℕ → Answer → Type 0
Wrote most room x = Indexed most x × Short room x
