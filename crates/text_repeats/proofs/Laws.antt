-- Laws of walks over neighbours of a list. Assumes nothing.
use Prim.Native.Nat.{ℕ, suc, ◌+◌, ◌-◌, ◌/◌, ◌%◌, ◌<◌, ◌≤◌, min}
use native.Mathlib.Omega.{arith}
use mathlib.Core.Path.{◌≡◌, refl, ap, sym, ◌∙◌}
use mathlib.Core.Bool.{Bool, true, false, ◌&&◌}
use mathlib.Core.List.{List, [], ◌∷◌}
use lib.Dec.{ltb}
use lib.ListN.{length, get_or, take, drop, length-drop}
use lib.Seq.{drop-cons}
use borrow.Author.Tests.{eq-eqb, ne_eqb, lt-ltb, le-ltb}
use Rattle.ground.specs.Basics.{pick}
use Rattle.ground.specs.Scan.{same_bytes, place_from}
use Rattle.ground.specs.Verdict.{verdict, fine}
use Rattle.keys.specs.Key.{past_mark, cut_to, name_at}
use Rattle.keys.proofs.Keys.{end_nul}
use Rattle.text_repeats.specs.Least.{same_record, least_of, least_next, told}

-- ---- a name

module _ (text : List ℕ) (x from end : ℕ) (p : (from ≤ length text) × (drop from text ≡ past_mark 9 (drop (x / 2) text))) (q : end ≡ place_from 0 text from) where
  pub name-ends : (from ≤ end) × (end ≤ length text)
  name-ends = let w = end_nul 0 text from p.0 end refl q in (w.0, w.1)

  pub name-is : take (end - from) (drop from text) ≡ name_at text 9 0 x
  unfolding name_at
  name-is = let w = end_nul 0 text from p.0 end refl q in w.2 ∙ ap (cut_to 0) p.1

module _ (text : List ℕ) (x y : ℕ) where
  pub record_other : (x % 2 ≡ y % 2 → ⊥) → false ≡ same_record text x y
  unfolding same_record
  record_other n = sym (ap (λ (b : Bool). b && same_bytes (name_at text 9 0 x) (name_at text 9 0 y)) (ne_eqb (x % 2) (y % 2) n))

  pub record_names : x % 2 ≡ y % 2 → {a b : List ℕ} → a ≡ name_at text 9 0 x → b ≡ name_at text 9 0 y → {v : Bool} → v ≡ same_bytes a b → v ≡ same_record text x y
  unfolding same_record
  record_names e {a} {b} p q w =
      w ∙ ap (λ (l : List ℕ). same_bytes l b) p ∙ ap (same_bytes (name_at text 9 0 x)) q
      ∙ sym (ap (λ (t : Bool). t && same_bytes (name_at text 9 0 x) (name_at text 9 0 y)) (eq-eqb (x % 2) (y % 2) e))

-- ---- neighbours

-- two neighbours and the rest
pub two_on : (l : List ℕ) (j : ℕ) → suc j < length l → drop j l ≡ get_or l j 0 ∷ get_or l (suc j) 0 ∷ drop (suc (suc j)) l
two_on l j p = drop-cons l j 0 (omega arith) ∙ ap (λ (r : List ℕ). get_or l j 0 ∷ r) (drop-cons l (suc j) 0 p)

last_on : (l : List ℕ) (i : ℕ) → 1 ≤ i → length l ≤ i → length (drop (i - 1) l) ≤ 1
last_on l i p q = omega (arith, length-drop (i - 1) l)

module _ (same : ℕ → ℕ → Bool) where
  pub least_here : (x y m : ℕ) → same x y ≡ true → {r : ℕ} → r ≡ min m y → r ≡ least_of same x y m
  unfolding least_of
  least_here x y m p q = q ∙ sym (ap (λ (b : Bool). pick b (min m y) m) p)

  pub least_not : (x y m : ℕ) → same x y ≡ false → m ≡ least_of same x y m
  unfolding least_of
  least_not x y m p = sym (ap (λ (b : Bool). pick b (min m y) m) p)

  least_few : (l : List ℕ) (m : ℕ) → length l ≤ 1 → least_next same l m ≡ m
  unfolding least_next
  least_few [] m p = refl
  least_few (x ∷ []) m p = refl
  least_few (x ∷ y ∷ l) m p = absurd (omega arith)

  least_step : (l : List ℕ) (j m : ℕ) → suc j < length l
      → least_next same (drop j l) m ≡ least_next same (drop (suc j) l) (least_of same (get_or l j 0) (get_or l (suc j) 0) m)
  unfolding least_next
  least_step l j m p =
      ap (λ (r : List ℕ). least_next same r m) (two_on l j p)
      ∙ ap (λ (r : List ℕ). least_next same r (least_of same (get_or l j 0) (get_or l (suc j) 0) m)) (sym (drop-cons l (suc j) 0 p))

  module _ (l : List ℕ) (i m : ℕ) (p : 1 ≤ i) where
    pub least_on : i < length l → {r : ℕ} → r ≡ least_of same (get_or l (i - 1) 0) (get_or l i 0) m
        → least_next same (drop (i - 1) l) m ≡ least_next same (drop (i + 1 - 1) l) r
    least_on q {r} e =
        let a : suc (i - 1) ≡ i = omega arith in
        let b : i ≡ i + 1 - 1 = omega arith in
        least_step l (i - 1) m (omega arith)
        ∙ ap (λ (k : ℕ). least_next same (drop k l) (least_of same (get_or l (i - 1) 0) (get_or l k 0) m)) a
        ∙ ap (least_next same (drop i l)) (sym e) ∙ ap (λ (k : ℕ). least_next same (drop k l) r) b

    pub least_end : length l ≤ i → least_next same (drop (i - 1) l) m ≡ m
    least_end q = least_few (drop (i - 1) l) m (last_on l i p q)

-- ---- the verdict

module _ (order name : ℕ) where
  pub told_order : order < 4294967296 → told order name ≡ verdict 7 (order / 2)
  unfolding told
  told_order p = ap (λ (b : Bool). pick b (verdict 7 (order / 2)) (pick (ltb name 4294967296) (verdict 17 (name / 2)) fine)) (lt-ltb order 4294967296 p)

  module _ (p : 4294967296 ≤ order) where
    rest : told order name ≡ pick (ltb name 4294967296) (verdict 17 (name / 2)) fine
    unfolding told
    rest = ap (λ (b : Bool). pick b (verdict 7 (order / 2)) (pick (ltb name 4294967296) (verdict 17 (name / 2)) fine)) (le-ltb order 4294967296 p)

    pub told-name : name < 4294967296 → told order name ≡ verdict 17 (name / 2)
    told-name q = rest ∙ ap (λ (b : Bool). pick b (verdict 17 (name / 2)) fine) (lt-ltb name 4294967296 q)

    pub told_none : 4294967296 ≤ name → told order name ≡ fine
    told_none q = rest ∙ ap (λ (b : Bool). pick b (verdict 17 (name / 2)) fine) (le-ltb name 4294967296 q)
