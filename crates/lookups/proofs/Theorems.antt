-- Each stored answer is what the single call gives, and a 10 is that of the first name that met one. Assumes nothing.
use Prim.Native.Nat.{ℕ, zero, suc, ◌+◌, ◌-◌, ◌*◌, ◌<◌, ◌≤◌, max}
use native.Mathlib.Omega.{arith}
use native.Mathlib.Nat.{not-suc-le-zero, le_of_suc-le-suc}
use mathlib.Core.Path.{◌≡◌, refl, ap, sym, subst, ◌∙◌}
use mathlib.Core.Bool.{Bool, true, false}
use mathlib.Core.List.{List, [], ◌∷◌, ◌++◌}
use mathlib.Core.Logic.{◌⊎◌, inl, inr, ⊎_elim}
use lib.Dec.{eqb}
use lib.ListN.{length, get_or, take, drop, length-take, length-drop}
use borrow.Author.Tests.{eqb-true, eqb-false}
use Rattle.ground.specs.Basics.{pick, part}
use Rattle.ground.specs.Verdict.{verdict, counted, refused, most_bytes, most_records}
use Rattle.ground.specs.declared.Verdict.{Verdict}
use Rattle.ground.specs.declared.Answer.{Answer}
use Rattle.ground.proofs.Laws.{gate_open, gate_fine, stored-done, stored_refused}
use Rattle.output.specs.Output.{gated}
use Rattle.entry.specs.Record.{records_of}
use Rattle.entry.specs.declared.EntryRecord.{EntryRecord}
use Rattle.lookup.specs.Halving.{Met, declined, search_from}
use Rattle.lookup.specs.Lookup.{compare_at}
use Rattle.lookup.specs.declared.Looked.{Looked}
use Rattle.lookup.proofs.Laws.{by_turns, lookup_open}
use Rattle.lookups.specs.Many.{width, many, no_sought, sought_of, well_sought, single, one_answer, first_bad, kept, all_kept, unless_bad, first_gate, many_answer, answers_after}
use Rattle.lookups.specs.Demand.{name_at, EachSingle, FirstMet}
use Rattle.lookups.specs.declared.Sought.{Sought}
use Rattle.lookups.proofs.Laws.{sought-many, first-room, first-refuses}
use Rattle.std.specs.Prelude.{Err, Ok, Result, ⊤}

-- ---- the first pass

module _ (f : Sought → Looked) where
  none-bad : (i : ℕ) (qs : List Sought) → (first_bad f i qs).number ≡ 0 → (j : ℕ) → j < length qs → (f (get_or qs j no_sought)).verdict.number ≡ 10 → ⊥
  unfolding first_bad
  none-bad i [] z j l t = not-suc-le-zero l
  none-bad i (q ∷ qs) z j l t = go (none-bad (i + 1) qs) (eqb (f q).verdict.number 10) refl z j l t
    where
      go : ((first_bad f (i + 1) qs).number ≡ 0 → (j : ℕ) → j < length qs → (f (get_or qs j no_sought)).verdict.number ≡ 10 → ⊥)
          → (v : Bool) → eqb (f q).verdict.number 10 ≡ v → (pick v (verdict 10 i) (first_bad f (i + 1) qs)).number ≡ 0
          → (j : ℕ) → j < length (q ∷ qs) → (f (get_or (q ∷ qs) j no_sought)).verdict.number ≡ 10 → ⊥
      go ih true e z j l t = omega arith
      go ih false e z zero l t = eqb-false _ _ e t
      go ih false e z (suc j) l t = ih z j (le_of_suc-le-suc l) t

  record Met10 (qs : List Sought) (d : ℕ) : Type 0 where
    inside : d < length qs
    here : (f (get_or qs d no_sought)).verdict.number ≡ 10
    first : (j : ℕ) → j < d → (f (get_or qs j no_sought)).verdict.number ≡ 10 → ⊥

  first-bad : (k : ℕ) (qs : List Sought) (i : ℕ) → first_bad f k qs ≡ verdict 10 i → (k ≤ i) × Met10 qs (i - k)
  unfolding first_bad
  first-bad k [] i e = absurd (omega (arith, ap (λ (v : Verdict). v.number) e))
  first-bad k (q ∷ qs) i e = go (first-bad (k + 1) qs i) (eqb (f q).verdict.number 10) refl e
    where
      shift : (d : ℕ) → Met10 qs d → ((f q).verdict.number ≡ 10 → ⊥) → Met10 (q ∷ qs) (suc d)
      shift d m n =
          record {
            inside = omega (arith, m.inside);
            here = m.here;
            first = λ j. before j;
          }
        where
          before : (j : ℕ) → j < suc d → (f (get_or (q ∷ qs) j no_sought)).verdict.number ≡ 10 → ⊥
          before zero l t = n t
          before (suc j) l t = m.first j (le_of_suc-le-suc l) t

      go : (first_bad f (k + 1) qs ≡ verdict 10 i → (k + 1 ≤ i) × Met10 qs (i - (k + 1))) → (v : Bool) → eqb (f q).verdict.number 10 ≡ v
          → pick v (verdict 10 k) (first_bad f (k + 1) qs) ≡ verdict 10 i → (k ≤ i) × Met10 (q ∷ qs) (i - k)
      go ih true p e =
          let z : k ≡ i = ap (λ (v : Verdict). v.place) e in
          let y : 0 ≡ i - k = omega arith in
          (omega arith, subst (λ (d : ℕ). Met10 (q ∷ qs) d) y (record { inside = omega arith; here = eqb-true _ _ p; first = λ j l t. not-suc-le-zero l }))
      go ih false p e =
          let m = ih e in
          let y : suc (i - (k + 1)) ≡ i - k = omega (arith, m.0) in
          (omega (arith, m.0), subst (λ (d : ℕ). Met10 (q ∷ qs) d) y (shift (i - (k + 1)) m.1 (eqb-false _ _ p)))

  -- answer j of all that are stored
  kept_at : (qs : List Sought) (rest : List ℕ) (j : ℕ) → j < length qs → take width (drop (j * width) (all_kept f qs ++ rest)) ≡ kept (f (get_or qs j no_sought))
  unfolding all_kept
  kept_at [] rest j l = absurd (not-suc-le-zero l)
  kept_at (q ∷ qs) rest zero l = refl
  kept_at (q ∷ qs) rest (suc j) l = let z : suc j * width ≡ suc (suc (suc (j * width))) = omega arith in rw z (kept_at qs rest j (le_of_suc-le-suc l))

-- ---- one answer

-- a search finds, or does not, or meets a record that is not well formed
abbrev Told : Looked → Type 0
Told r = (r.verdict.number ≡ 0) ⊎ ((r.verdict.number ≡ 15) ⊎ (r.verdict.number ≡ 10))

search_told : (f : ℕ → Met) (low high c : ℕ) → Told (search_from f low high c)
search_told f low high c =
    by_turns f (λ l h k r. Told r)
    (record {
      ended = λ l h k p. inr (inl refl);
      broken = λ l h k p q. inr (inr refl);
      below = λ l h k r p q t. t;
      same = λ l h k p q. inl refl;
      above = λ l h k r p q t. t;
    })
    low high c

module _ (h : ℕ) (object records names : List ℕ) (q : Sought) where
  not-bad : ((one_answer h object records names q).verdict.number ≡ 10 → ⊥) → one_answer h object records names q ≡ single h object records names q
  unfolding one_answer
  not-bad n = go (well_sought (length names) q) (single h object records names q) n
    where
      go : (v : Bool) (a : Looked) → ((pick v a (declined (verdict 10 0))).verdict.number ≡ 10 → ⊥) → pick v a (declined (verdict 10 0)) ≡ a
      go true a n = refl
      go false a n = absurd (n refl)

  single-told : (h ≡ 20) ⊎ (h ≡ 32) → max (length object) (length names) ≤ most_bytes → length (records_of records) ≤ most_records
      → Told (single h object records names q)
  single-told i b r =
      let name : List ℕ = part q.start q.end names in
      let rs : List EntryRecord = records_of records in
      let short : length name ≤ length names = simp (length-take, length-drop) (omega arith) in
      subst Told
      (sym (lookup_open h object rs name (eqb q.mark 1) (gate_fine h (max (length object) (length name)) (length rs) i (omega arith) r)))
      (search_told (compare_at h object rs name (eqb q.mark 1)) 0 (length rs) 0)

-- ---- the whole

passed_done : (v : Verdict) (m n : ℕ) → unless_bad v m ≡ counted n → (n ≡ m) × (v.number ≡ 0)
passed_done v m n e = go (eqb v.number 0) refl e
  where
    go : (w : Bool) → eqb v.number 0 ≡ w → pick w (counted m) (refused v) ≡ counted n → (n ≡ m) × (v.number ≡ 0)
    go true p e = (sym (ap (λ (a : Answer). a.count) e), eqb-true _ _ p)
    go false p e = absurd (eqb-false _ _ p (ap (λ (a : Answer). a.verdict.number) e))

passed_bad : (v : Verdict) (m i : ℕ) → unless_bad v m ≡ refused (verdict 10 i) → v ≡ verdict 10 i
passed_bad v m i e = go (eqb v.number 0) e
  where
    go : (w : Bool) → pick w (counted m) (refused v) ≡ refused (verdict 10 i) → v ≡ verdict 10 i
    go true e = absurd (omega (arith, ap (λ (a : Answer). a.verdict.number) e))
    go false e = ap (λ (a : Answer). a.verdict) e

module _ (h : ℕ) (object records names sought : List ℕ) (numbers : ℕ) where
  abbrev f : Sought → Looked
  f = one_answer h object records names

  abbrev qs : List Sought
  qs = sought_of sought

  abbrev begun-by : Result ⊤ Verdict
  begun-by = first_gate h (max (length object) (length names)) (length (records_of records)) (many (length sought)) (many numbers)

  -- a call that was not refused 1, 2 or 4 began
  begun : (a : Answer) → many_answer h object records names sought numbers ≡ a
      → (a.verdict.number ≡ 1 → ⊥) → (a.verdict.number ≡ 2 → ⊥) → (a.verdict.number ≡ 4 → ⊥)
      → (begun-by ≡ Ok tt) × (unless_bad (first_bad f 0 qs) (many (length sought)) ≡ a)
  unfolding many_answer gated
  begun a e x y w = go begun-by refl e
    where
      go : (g : Result ⊤ Verdict) → begun-by ≡ g → gated g (unless_bad (first_bad f 0 qs) (many (length sought))) ≡ a
          → (begun-by ≡ Ok tt) × (unless_bad (first_bad f 0 qs) (many (length sought)) ≡ a)
      go (Ok tt) p e = (p, e)
      go (Err v) p e =
          let z : a.verdict.number ≡ v.number = sym (ap (λ (b : Answer). b.verdict.number) e) in
          absurd (⊎_elim (λ q. x (z ∙ q)) (λ r. ⊎_elim (λ q. y (z ∙ q)) (λ q. w (z ∙ q)) r) (first-refuses h _ _ _ _ v p))

pub each_single : EachSingle
each_single h object records names sought lent n e =
    let b = begun h object records names sought (length lent) (counted n) e (λ z. omega arith) (λ z. omega arith) (λ z. omega arith) in
    let d = passed_done (first_bad f 0 (sought_of sought)) (many (length sought)) n b.1 in
    let g = gate_open h _ _ (first-room h _ _ _ _ b.0).0 in
    (d.0, λ i l. at i l d.0 d.1 g.0 g.1 (omega (arith, g.2)))
  where
    f : Sought → Looked
    f = one_answer h object records names

    at : (i : ℕ) → i < n → n ≡ many (length sought) → (first_bad f 0 (sought_of sought)).number ≡ 0 → (h ≡ 20) ⊎ (h ≡ 32) → max (length object) (length names) ≤ most_bytes
        → length (records_of records) ≤ most_records
        → (take width (drop (i * width) (answers_after h object records names sought lent)) ≡ kept (single h object records names (name_at sought i)))
        × (((single h object records names (name_at sought i)).verdict.number ≡ 0) ⊎ ((single h object records names (name_at sought i)).verdict.number ≡ 15))
    at i l c z w x y =
        let q : Sought = name_at sought i in
        let k : i < length (sought_of sought) = omega (arith, sought-many sought) in
        let never = none-bad f 0 (sought_of sought) z i k in
        let same : f q ≡ single h object records names q = not-bad h object records names q never in
        let all : List ℕ = all_kept f (sought_of sought) in
        let after : answers_after h object records names sought lent ≡ all ++ drop (length all) lent = stored-done _ all lent (ap (λ (a : Answer). a.verdict.number) e) in (
          ap (λ (l : List ℕ). take width (drop (i * width) l)) after ∙ kept_at f (sought_of sought) (drop (length all) lent) i k ∙ ap kept same,
          ⊎_elim (λ t. inl t) (λ t. ⊎_elim (λ u. inr u) (λ u. absurd (never (ap (λ (a : Looked). a.verdict.number) same ∙ u))) t) (single-told h object records names q w x y),
        )

pub first_met : FirstMet
first_met h object records names sought lent i e =
    let b = begun h object records names sought (length lent) (refused (verdict 10 i)) e (λ z. omega arith) (λ z. omega arith) (λ z. omega arith) in
    let m = first-bad (one_answer h object records names) 0 (sought_of sought) i (passed_bad _ (many (length sought)) i b.1) in
    let y : i - 0 ≡ i = omega arith in
    let d : Met10 (one_answer h object records names) (sought_of sought) i = subst (λ (k : ℕ). Met10 (one_answer h object records names) (sought_of sought) k) y m.1 in
    (omega (arith, d.inside, sought-many sought), d.here, d.first, stored_refused _ _ lent (λ z. omega (arith, ap (λ (a : Answer). a.verdict.number) e)))
