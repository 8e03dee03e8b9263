-- Laws of unfolding, one for each way through a definition. Assumes nothing.
use Prim.Native.Nat.{ℕ, ◌+◌, ◌<◌, ◌≤◌, max}
use mathlib.Core.Bool.{true, false}
use mathlib.Core.Path.{◌≡◌, ap, sym, ◌∙◌}
use mathlib.Core.List.{List, [], ◌∷◌, ◌++◌}
use native.Mathlib.Numerals.{add-one}
use native.Mathlib.Omega.{arith}
use lib.ListN.{length, get_or, drop, set, drop_of_length-le}
use lib.Seq.{drop-cons, sets, sets-eq}
use borrow.Author.Tests.{eq-eqb, ne_eqb, le-leb, lt-leb}
use Rattle.ground.specs.Verdict.{verdict, counted, refused, size_gate}
use Rattle.ground.specs.declared.Verdict.{Verdict}
use Rattle.extra_header.specs.Extra.{folded_form}
use Rattle.header.specs.Record.{well_formed, header_value}
use Rattle.header.specs.declared.HeaderRecord.{HeaderRecord}
use Rattle.unfold.specs.Unfold.{has_form, skips, plain_from, plain_of, Plan, stores, refuses, room_plan, value_plan, gate_plan, unfold_plan, answer_of, after_of}
use Rattle.std.specs.Prelude.{Err, Ok}

-- ---- the form

module _ (mark : ℕ) (v : List ℕ) where
  pub form-any : (mark ≡ 1 → ⊥) → has_form mark v ≡ true
  unfolding has_form
  form-any e = simp (ne_eqb mark 1 e)

  pub form_folded : mark ≡ 1 → has_form mark v ≡ folded_form v
  unfolding has_form
  form_folded e = simp (eq-eqb mark 1 e)

-- ---- the rest of a value from a place: a byte left out, a byte kept, the end

module _ (mark prev : ℕ) (v : List ℕ) (i : ℕ) where
  pub plain_end : length v ≤ i → plain_from mark prev (drop i v) ≡ []
  unfolding plain_from
  plain_end h = rw (drop_of_length-le v {i = i} h)

  module _ (h : i < length v) where
    pub plain_skip : skips mark prev ≡ true → plain_from mark prev (drop i v) ≡ plain_from mark (get_or v i 0) (drop (i + 1) v)
    unfolding plain_from
    plain_skip e = rw (add-one i, drop-cons v i 0 h) (rw e)

    pub plain_keep : skips mark prev ≡ false → plain_from mark prev (drop i v) ≡ get_or v i 0 ∷ plain_from mark (get_or v i 0) (drop (i + 1) v)
    unfolding plain_from
    plain_keep e = rw (add-one i, drop-cons v i 0 h) (rw e)

-- a value with another mark than 1 is copied
pub plain-same : (mark : ℕ) (v : List ℕ) → (mark ≡ 1 → ⊥) → plain_of mark v ≡ v
unfolding plain_of
plain-same mark v m = from 0 v
  where
    from : (prev : ℕ) (v : List ℕ) → plain_from mark prev v ≡ v
    from prev [] = plain_end mark prev [] 0 (omega arith)
    from prev (x ∷ xs) = plain_keep mark prev (x ∷ xs) 0 (omega arith) (rw (ne_eqb mark 1 m)) ∙ ap (λ (l : List ℕ). x ∷ l) (from x xs)

-- ---- what a call comes to

module _ (s : List ℕ) (x : HeaderRecord) (room : ℕ) where
  pub plan_shut : (v : Verdict) → size_gate (max (length s) room) 0 ≡ Err v → unfold_plan s x room ≡ refuses v
  unfolding unfold_plan gate_plan
  plan_shut v g = rw g

  module _ (g : size_gate (max (length s) room) 0 ≡ Ok tt) where
    plan_open : unfold_plan s x room ≡ value_plan s x room
    unfolding unfold_plan gate_plan
    plan_open = rw g

    pub plan_record : well_formed x (length s) ≡ false → unfold_plan s x room ≡ refuses (verdict 10 0)
    unfolding value_plan
    plan_record e = plan_open ∙ simp e

    module _ (w : well_formed x (length s) ≡ true) where
      pub plan_form : has_form x.mark (header_value s x) ≡ false → unfold_plan s x room ≡ refuses (verdict 10 0)
      unfolding value_plan
      plan_form e = plan_open ∙ rw (w, e)

      module _ (f : has_form x.mark (header_value s x) ≡ true) (n : ℕ) (q : n ≡ length (plain_of x.mark (header_value s x))) where
        pub plan_short : room < n → unfold_plan s x room ≡ refuses (verdict 8 n)
        unfolding value_plan room_plan
        plan_short e = plan_open ∙ rw (w, f, ← q, lt-leb n room e)

        pub plan_stores : n ≤ room → unfold_plan s x room ≡ stores (plain_of x.mark (header_value s x))
        unfolding value_plan room_plan
        plan_stores e = plan_open ∙ rw (w, f, ← q, le-leb n room e)

module _ (p : Plan) (out : List ℕ) where
  pub answer-refuses : (v : Verdict) → p ≡ refuses v → answer_of p ≡ refused v
  unfolding answer_of
  answer-refuses v e = rw e

  pub after-refuses : (v : Verdict) → p ≡ refuses v → after_of out p ≡ out
  unfolding after_of
  after-refuses v e = rw e

  pub answer-stores : (l : List ℕ) → p ≡ stores l → (n : ℕ) → n ≡ length l → answer_of p ≡ counted n
  unfolding answer_of
  answer-stores l e n q = rw (e, q)

  pub after-stores : (l : List ℕ) → p ≡ stores l → length l ≤ length out → after_of out p ≡ sets out 0 l
  unfolding after_of
  after-stores l e k =
      let z : 0 + length l ≡ length l = omega arith in
      rw e (sym (sets-eq l out 0 (omega arith) ∙ ap (λ (j : ℕ). l ++ drop j out) z))

-- the first of the bytes to store goes to its place, the others after it
pub sets_keep : (out : List ℕ) (n x : ℕ) (l rest : List ℕ) → l ≡ x ∷ rest → sets out n l ≡ sets (set out n x) (n + 1) rest
sets_keep out n x l rest q = rw (q, add-one n)
