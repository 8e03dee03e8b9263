-- Importing with lent memory: each way through it, and what it says where the memory is long enough. Assumes nothing.
use Prim.Native.Nat.{ℕ, ◌<◌, ◌≤◌}
use native.Mathlib.Omega.{arith}
use mathlib.Core.Path.{◌≡◌, refl, ap, sym, ◌∙◌}
use mathlib.Core.Logic.{⊎_elim}
use mathlib.Core.Bool.{Bool, true, false, ◌&&◌}
use mathlib.Core.List.{List, ◌++◌}
use lib.Dec.{eqb, ltb}
use lib.ListN.{length, take, drop}
use lib.Seq.{sets, length-sets, take-append_seam}
use borrow.Author.Tests.{eq-eqb, ne_eqb, lt-ltb, le-ltb}
use Rattle.ground.specs.Basics.{pick}
use Rattle.ground.specs.Verdict.{verdict, refused, most_records, id_length, most_bytes, gate_of, stored}
use Rattle.ground.specs.declared.Verdict.{Verdict}
use Rattle.ground.specs.declared.Answer.{Answer}
use Rattle.ground.proofs.Laws.{gate_open, gate_fine, gate_shut, id-made, id-is, sets_front, stored_refused}
use Rattle.output.specs.Output.{fitted}
use Rattle.output.proofs.Laws.{refused-both, gated-shut, gated_open}
use Rattle.keys.specs.Key.{key_at, below_by}
use Rattle.sorting.specs.Sort.{sort_by}
use Rattle.text_import.specs.Import.{Texts, texts, entries_in, ending, imported, counted_of}
use Rattle.text_import.specs.Code.{elements_in, gathered}
use Rattle.text_import.specs.Lent.{too_many, lent_by, lent_answer, front_in_order, left_by, by_gate, lent_list}
use Rattle.text_import.proofs.Walk.{read-few}
use Rattle.text_import.proofs.Whole.{Both, elements-many, unread, all_read}
use Rattle.std.specs.Prelude.{Err, Ok, Result, ⊤}

-- ---- the three ways

module _ (t : Texts) (room size : ℕ) where
  by : {b : Bool} → too_many t size ≡ b → lent_by t room size ≡ pick b (refused (verdict 4 (length (entries_in t)))) (fitted room (counted_of t))
  unfolding lent_by
  by e = ap (λ (b : Bool). pick b (refused (verdict 4 (length (entries_in t)))) (fitted room (counted_of t))) e

  pub lent_unread : ((ending t).number ≡ 0 → ⊥) → lent_by t room size ≡ fitted room (counted_of t)
  unfolding too_many
  lent_unread n = by (ap (λ (b : Bool). b && ltb size (length (entries_in t))) (ne_eqb (ending t).number 0 n))

  pub lent-many : (ending t).number ≡ 0 → size < length (entries_in t) → lent_by t room size ≡ refused (verdict 4 (length (entries_in t)))
  unfolding too_many
  lent-many e p = by {b = true} (rw (eq-eqb (ending t).number 0 e, lt-ltb size (length (entries_in t)) p) refl)

  pub lent_enough : length (entries_in t) ≤ size → lent_by t room size ≡ fitted room (counted_of t)
  unfolding too_many
  lent_enough p = by (go (eqb (ending t).number 0))
    where
      go : (b : Bool) → (b && ltb size (length (entries_in t))) ≡ false
      go true = le-ltb size (length (entries_in t)) p
      go false = refl

  -- where it is not 4, it is what importing gives
  pub lent_other : ((lent_by t room size).verdict.number ≡ 4 → ⊥) → lent_by t room size ≡ fitted room (counted_of t)
  lent_other = go (too_many t size) refl
    where
      go : (b : Bool) → too_many t size ≡ b → ((lent_by t room size).verdict.number ≡ 4 → ⊥) → lent_by t room size ≡ fitted room (counted_of t)
      go true e n = absurd (n (ap (λ (a : Answer). a.verdict.number) (by e)))
      go false e n = by e

module _ (s : List ℕ) (t : Texts) (list : List ℕ) where
  left_unread : ((ending t).number ≡ 0 → ⊥) → left_by s t list ≡ sets list 0 (elements_in t)
  unfolding left_by
  left_unread n = rw (ne_eqb (ending t).number 0 n) refl

  left-many : (ending t).number ≡ 0 → length list < length (entries_in t) → left_by s t list ≡ sets list 0 (elements_in t)
  unfolding left_by
  left-many e p = rw (eq-eqb (ending t).number 0 e, lt-ltb (length list) (length (entries_in t)) p) refl

  left_all : (ending t).number ≡ 0 → length (entries_in t) ≤ length list → left_by s t list ≡ front_in_order s (length (entries_in t)) (sets list 0 (elements_in t))
  unfolding left_by
  left_all e p = rw (eq-eqb (ending t).number 0 e, le-ltb (length list) (length (entries_in t)) p) refl

-- ---- the promises

-- of an import within its bounds
abbrev pub Lent : List ℕ → Texts → List ℕ → List ℕ → Answer → List ℕ → List ℕ → Type 0
Lent s t out list r after left =
    (r ≡ lent_by t (length out) (length list)) × ((after ≡ stored (lent_by t (length out) (length list)).verdict (imported t) out) × (left ≡ left_by s t list))

-- the same of an answer that has another name
pub called_lent : (s : List ℕ) (t : Texts) (out list : List ℕ) {after left : List ℕ} {r q : Answer} → r ≡ q → Lent s t out list q after left
    → Lent s t out list r after left
called_lent s t out list e p = (e ∙ p.0, p.1)

module _ (k h : ℕ) (s out list : List ℕ) (a : Answer) (q : a ≡ gathered (texts k h s)) (l : List ℕ) (p : l ≡ sets list 0 (elements_in (texts k h s))) where
  pub opens_unread : (a.verdict.number ≡ 0 → ⊥) → Lent s (texts k h s) out list (refused a.verdict) out l
  unfolding gathered
  opens_unread n =
      let b = unread k h s out a q n in
      let m : (ending (texts k h s)).number ≡ 0 → ⊥ = λ z. n (ap (λ (x : Answer). x.verdict.number) q ∙ z) in
      let e = lent_unread (texts k h s) (length out) (length list) m in
      (b.0 ∙ sym e, (b.1 ∙ ap (λ (x : Answer). stored x.verdict (imported (texts k h s)) out) (sym e), p ∙ sym (left_unread s (texts k h s) list m)))

  module _ (z : a.verdict.number ≡ 0) where
    read : ((ending (texts k h s)).number ≡ 0) × (length (entries_in (texts k h s)) ≡ a.count)
    read = all_read k h s a q z

    pub opens-many : length l < a.count → Lent s (texts k h s) out list (refused (verdict 4 a.count)) out l
    opens-many m =
        let w = read in
        let f : length list < length (entries_in (texts k h s)) = omega (arith, m, w.1, ap length p, length-sets list 0 (elements_in (texts k h s))) in
        let e = lent-many (texts k h s) (length out) (length list) w.0 f ∙ ap (λ (n : ℕ). refused (verdict 4 n)) w.1 in
        let b = refused-both (refused (verdict 4 a.count)) (imported (texts k h s)) out e (λ y. omega arith) in
        (b.0, (b.1, p ∙ sym (left-many s (texts k h s) list w.0 f)))

    module _ (m : a.count ≤ length l) where
      fits : length (entries_in (texts k h s)) ≤ length list
      fits = omega (arith, m, read.1, ap length p, length-sets list 0 (elements_in (texts k h s)))

      -- the elements are at the front
      pub opens_front : take a.count l ≡ elements_in (texts k h s)
      opens_front =
          let c : length (elements_in (texts k h s)) ≤ length list = omega (arith, fits, elements-many (texts k h s)) in
          let n : a.count ≡ length (elements_in (texts k h s)) = sym (elements-many (texts k h s) ∙ read.1) in
          rw (p, sets_front list (elements_in (texts k h s)) c, n) (take-append_seam (elements_in (texts k h s)) (drop (length (elements_in (texts k h s))) list))

      pub opens-all : (r : Answer) (after part : List ℕ) → Both k h s out r after → part ≡ sort_by (below_by (key_at s 9 0)) (take a.count l)
          → Lent s (texts k h s) out list r after (part ++ drop a.count l)
      opens-all r after part b w =
          let e = lent_enough (texts k h s) (length out) (length list) fits in (
            b.0 ∙ sym e,
            (
              b.1 ∙ ap (λ (x : Answer). stored x.verdict (imported (texts k h s)) out) (sym e),
              ap (λ (y : List ℕ). y ++ drop a.count l) w
                  ∙ ap (λ (n : ℕ). front_in_order s n l) (sym read.1) ∙ ap (front_in_order s (length (entries_in (texts k h s)))) p
                  ∙ sym (left_all s (texts k h s) list read.0 fits),
            ),
          )

-- ---- the bounds

-- of an import with all its tests
abbrev pub LentWhole : ℕ → ℕ → List ℕ → List ℕ → List ℕ → Answer → List ℕ → List ℕ → Type 0
LentWhole k h s out list r after left =
    (r ≡ lent_answer k h s (length out) (length list))
    × ((after ≡ stored (lent_answer k h s (length out) (length list)).verdict (imported (texts k h s)) out) × (left ≡ lent_list k h s list))

module _ (k h : ℕ) (s : List ℕ) where
  pub lent_open : gate_of h (length s) 0 ≡ Ok tt → (room size : ℕ) → lent_answer k h s room size ≡ lent_by (texts k h s) room size
  unfolding lent_answer
  lent_open g room size = gated_open _ _ g

  module _ (out list : List ℕ) where
    pub lent-shut : (v : Verdict) → gate_of h (length s) 0 ≡ Err v → LentWhole k h s out list (refused v) out list
    unfolding lent_answer lent_list
    lent-shut v g =
        let n : v.number ≡ 0 → ⊥ =
        λ z. ⊎_elim (λ q. omega (arith, z, ap (λ (x : Verdict). x.number) q)) (λ q. omega (arith, z, ap (λ (x : Verdict). x.number) q))
        (gate_shut h (length s) 0 v g) in
        let b = refused-both (refused v) (imported (texts k h s)) out (gated-shut _ v (lent_by (texts k h s) (length out) (length list)) g) n in
        (b.0, (b.1, sym (ap (λ (x : Result ⊤ Verdict). by_gate x (left_by s (texts k h s) list) list) g)))

    pub lent-whole : gate_of h (length s) 0 ≡ Ok tt → (r : Answer) (after left : List ℕ) → Lent s (texts k h s) out list r after left
        → LentWhole k h s out list r after left
    unfolding lent_list
    lent-whole g r after left b =
        let e = lent_open g (length out) (length list) in
        let f : left_by s (texts k h s) list ≡ by_gate (gate_of h (length s) 0) (left_by s (texts k h s) list) list =
        sym (ap (λ (x : Result ⊤ Verdict). by_gate x (left_by s (texts k h s) list) list) g) in
        (b.0 ∙ sym e, (b.1.0 ∙ ap (λ (x : Answer). stored x.verdict (imported (texts k h s)) out) (sym e), b.1.1 ∙ f))

  pub lent_began : gate_of h (length s) 0 ≡ Ok tt → (id_length h ≡ true) × (length s ≤ most_bytes)
  lent_began g = let o = gate_open h (length s) 0 g in (id-made h o.0, o.1)

  -- the gate is open where the bounds are kept
  module _ (i : id_length h ≡ true) (short : length s ≤ most_bytes) where
    gate : gate_of h (length s) 0 ≡ Ok tt
    gate = gate_fine h (length s) 0 (id-is h i) short (omega arith)

    module _ (out : List ℕ) (size : ℕ) (r : Answer) (after : List ℕ) (p : r ≡ lent_answer k h s (length out) size)
        (q : after ≡ stored (lent_answer k h s (length out) size).verdict (imported (texts k h s)) out) where
      is : lent_by (texts k h s) (length out) size ≡ fitted (length out) (counted_of (texts k h s)) → Both k h s out r after
      is e =
          let f : lent_answer k h s (length out) size ≡ fitted (length out) (counted_of (texts k h s)) = lent_open gate (length out) size ∙ e in
          (p ∙ f, q ∙ ap (λ (x : Answer). stored x.verdict (imported (texts k h s)) out) f)

      -- memory for all records
      pub both_most : most_records ≤ size → Both k h s out r after
      both_most m = is (lent_enough (texts k h s) (length out) size (omega (arith, m, read-few k h most_records 0 s)))

      -- no answer of 4
      pub both-other : (r.verdict.number ≡ 4 → ⊥) → Both k h s out r after
      both-other n =
          is (lent_other (texts k h s) (length out) size (λ z. n (ap (λ (x : Answer). x.verdict.number) (p ∙ lent_open gate (length out) size) ∙ z)))

      -- an answer of 4 leaves the bytes
      pub left_alone : r.verdict.number ≡ 4 → after ≡ out
      left_alone z =
          q ∙ stored_refused (lent_answer k h s (length out) size).verdict (imported (texts k h s)) out
          (λ y. omega (arith, z, ap (λ (x : Answer). x.verdict.number) p, y))
