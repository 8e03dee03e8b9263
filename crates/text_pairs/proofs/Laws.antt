-- Laws of the places of files in a sorted list, and of what stands beside them. Assumes nothing.
use Prim.Native.Nat.{ℕ, zero, suc, ◌+◌, ◌-◌, ◌/◌, ◌%◌, ◌<◌, ◌≤◌, min}
use native.Mathlib.Omega.{arith}
use native.Mathlib.Numerals.{add-one}
use mathlib.Core.Path.{◌≡◌, refl, ap, sym, ◌∙◌}
use mathlib.Core.Bool.{Bool, true, false}
use mathlib.Core.List.{List, [], ◌∷◌, ◌++◌}
use lib.Dec.{eqb, ltb}
use lib.ListN.{length, get_or, drop, drop_of_length-le}
use lib.Seq.{drop-cons}
use borrow.Author.Tests.{eq-eqb, ne_eqb, lt-ltb, le-ltb}
use Rattle.ground.specs.Basics.{pick}
use Rattle.ground.specs.declared.Verdict.{Verdict}
use Rattle.order.specs.Order.{then_by, next, name_order}
use Rattle.order.proofs.Laws.{by_lt, by-eq}
use Rattle.keys.specs.Key.{name_at, key_at, below_by, decide}
use Rattle.keys.specs.Strict.{Strict}
use Rattle.sorting.specs.Sort.{Ascends}
use Rattle.sorting.proofs.Sorted.{ascends_pair, up-below, up_trans, up-then-below}
use Rattle.mend_kept.specs.Code.{Lowest}
use Rattle.text_repeats.specs.Least.{same_record, least_next, told}
use Rattle.text_repeats.proofs.Laws.{told_order}
use Rattle.text_pairs.specs.Pairs.{count_below, same_at, same_before, beside_of, least_with, least_pair, judged_by}
use Rattle.std.specs.declared.cmp.Ordering.{Ordering}
use Rattle.std.specs.declared.cmp.Ordering.TheVariants.{Less}

-- ---- how many are below

pub count_lowest : (below : ℕ → ℕ → Bool) (l : List ℕ) (x r : ℕ) → Lowest below l x r → r ≡ count_below below l x
unfolding count_below
count_lowest below [] x r g = omega (arith, g.inside)
count_lowest below (y ∷ l) x zero g =
    rw (g.over 0 (omega arith) (omega arith))
    (count_lowest below l x 0
    (record { inside = omega arith; under = λ j p. absurd (omega arith); over = λ j p q. g.over (suc j) (omega arith) (omega arith) }))
count_lowest below (y ∷ l) x (suc r) g =
    rw (g.under 0 (omega arith))
    (ap suc
    (count_lowest below l x r
    (record { inside = omega (arith, g.inside); under = λ j p. g.under (suc j) (omega arith); over = λ j p q. g.over (suc j) (omega arith) (omega arith) })))

module _ (below : ℕ → ℕ → Bool) (strict : Strict below) (l : List ℕ) (up : Ascends below l) (x j : ℕ) (p : j < length l) (q : below x (get_or l j 0) ≡ true) where
  over : (i : ℕ) → j ≤ i → i < length l → below (get_or l i 0) x ≡ false
  over i r k =
      up_trans below strict x (get_or l j 0) (get_or l i 0) (up-below below strict x (get_or l j 0) q) (ascends_pair below strict 0 l up j i r k)

  -- none before what is above x
  pub count-first : j ≡ 0 → 0 ≡ count_below below l x
  count-first z =
      count_lowest below l x 0 (record { inside = omega arith; under = λ i r. absurd (omega arith); over = λ i r k. over i (omega (arith, z)) k })

  -- all before it, where the last of them is below x
  pub count_next : (j ≡ 0 → ⊥) → below (get_or l (j - 1) 0) x ≡ true → j ≡ count_below below l x
  count_next n t =
      count_lowest below l x j
      (record {
        inside = omega arith;
        under = λ i r. up-then-below below strict (get_or l i 0) (get_or l (j - 1) 0) x (ascends_pair below strict 0 l up i (j - 1) (before i r) (omega arith)) t;
        over = over;
      })
    where
      before : (i : ℕ) → i < j → i ≤ j - 1
      before i r = omega arith

-- ---- a folder is above the file of its name

short-below : (n : List ℕ) → name_order (n ++ []) false (n ++ 47 ∷ []) false ≡ Less
unfolding name_order next
short-below [] = by_lt (omega arith)
short-below (x ∷ n) = ap (λ (o : Ordering). then_by o (name_order (n ++ []) false (n ++ 47 ∷ []) false)) (by-eq refl) ∙ short-below n

pub folder-over : (s : List ℕ) (x : ℕ) → x % 2 ≡ 0 → below_by (key_at s 9 0) x (x + 1) ≡ true
unfolding below_by key_at name_at
folder-over s x e =
    let a : eqb (x % 2) 1 ≡ false = ne_eqb (x % 2) 1 (λ z. omega (arith, e, z)) in
    let b : eqb ((x + 1) % 2) 1 ≡ true = eq-eqb ((x + 1) % 2) 1 (omega (arith, e)) in
    let c : (x + 1) / 2 ≡ x / 2 = omega (arith, e) in
    rw (a, b, c) (ap (λ (o : Ordering). decide o (ltb x (x + 1))) (short-below (name_at s 9 0 x)))

-- so it is where it stands at a place
pub above : (s : List ℕ) (x : ℕ) → x % 2 ≡ 0 → {y : ℕ} → y ≡ x + 1 → below_by (key_at s 9 0) x y ≡ true
above s x e p = ap (below_by (key_at s 9 0) x) p ∙ folder-over s x e

-- the file of a folder
pub folder-file : (z : ℕ) → (z % 2 ≡ 0 → ⊥) → (z ≡ z - 1 + 1) × ((z - 1) % 2 ≡ 0)
folder-file z n = let o : z % 2 ≡ 1 = odd (z % 2) n (omega arith) in (omega (arith, o), omega (arith, o))
  where
    odd : (r : ℕ) → (r ≡ 0 → ⊥) → r < 2 → r ≡ 1
    odd zero n p = absurd (n refl)
    odd (suc r) n p = omega arith

-- ---- what is the same beside a place

module _ (same : ℕ → ℕ → Bool) (l : List ℕ) (i x : ℕ) where
  pub same_out : length l ≤ i → false ≡ same_at same l i x
  unfolding same_at
  same_out p = sym (ap (λ (b : Bool). pick b (same (get_or l i 0) x) false) (le-ltb i (length l) p))

  pub same_in : i < length l → {v : Bool} → v ≡ same (get_or l i 0) x → v ≡ same_at same l i x
  unfolding same_at
  same_in p e = e ∙ sym (ap (λ (b : Bool). pick b (same (get_or l i 0) x) false) (lt-ltb i (length l) p))

  pub before-none : i ≡ 0 → false ≡ same_before same l i x
  unfolding same_before
  before-none p = sym (ap (λ (b : Bool). pick b false (same_at same l (i - 1) x)) (eq-eqb i 0 p))

  pub before-some : (i ≡ 0 → ⊥) → {v : Bool} → v ≡ same_at same l (i - 1) x → v ≡ same_before same l i x
  unfolding same_before
  before-some p e = e ∙ sym (ap (λ (b : Bool). pick b false (same_at same l (i - 1) x)) (ne_eqb i 0 p))

  pub beside_before : same_before same l i x ≡ true → x ≡ beside_of same l i x
  unfolding beside_of
  beside_before e = sym (ap (λ (b : Bool). pick b x (pick (same_at same l i x) (get_or l i 0) 4294967296)) e)

  module _ (e : same_before same l i x ≡ false) where
    by : {b : Bool} → b ≡ same_at same l i x → pick b (get_or l i 0) 4294967296 ≡ beside_of same l i x
    unfolding beside_of
    by {b} f =
        ap (λ (b : Bool). pick b (get_or l i 0) 4294967296) f ∙ sym (ap (λ (b : Bool). pick b x (pick (same_at same l i x) (get_or l i 0) 4294967296)) e)

    pub beside_end : length l ≤ i → 4294967296 ≡ beside_of same l i x
    beside_end p = by (same_out p)

    pub beside_some : i < length l → {r : ℕ} → r ≡ pick (same (get_or l i 0) x) (get_or l i 0) 4294967296 → r ≡ beside_of same l i x
    beside_some p f = f ∙ by (same_in p refl)

    pub beside_here : i < length l → same (get_or l i 0) x ≡ true → get_or l i 0 ≡ beside_of same l i x
    beside_here p f = by (same_in p (sym f))

-- an element that is the same, or none
pub if-so : {b : Bool} {y : ℕ} → b ≡ true → y ≡ pick b y 4294967296
if-so {b} {y} e = sym (ap (λ (b : Bool). pick b y 4294967296) e)

pub if_not : (y : ℕ) {b : Bool} → b ≡ false → 4294967296 ≡ pick b y 4294967296
if_not y e = sym (ap (λ (b : Bool). pick b y 4294967296) e)

-- ---- a folder and its file

module _ (below same : ℕ → ℕ → Bool) (l : List ℕ) where
  module _ (z least : ℕ) where
    pub with_file : z % 2 ≡ 0 → least ≡ least_with below same l z least
    unfolding least_with
    with_file e = sym (ap (λ (b : Bool). pick b least (min least (beside_of same l (count_below below l (z - 1)) (z - 1)))) (eq-eqb (z % 2) 0 e))

    module _ (e : z % 2 ≡ 0 → ⊥) {k r : ℕ} (p : k ≡ count_below below l (z - 1)) (q : r ≡ beside_of same l k (z - 1)) where
      pub with_other : {v : ℕ} → v ≡ min r least → v ≡ least_with below same l z least
      unfolding least_with
      with_other m =
          let turned : min r least ≡ min least r = omega arith in
          m ∙ turned ∙ ap (min least) (q ∙ ap (λ (i : ℕ). beside_of same l i (z - 1)) p)
          ∙ sym (ap (λ (b : Bool). pick b least (min least (beside_of same l (count_below below l (z - 1)) (z - 1)))) (ne_eqb (z % 2) 0 e))

  pub pair-on : (j m : ℕ) → j < length l → {r : ℕ} → r ≡ least_with below same l (get_or l j 0) m
      → least_pair below same l (drop j l) m ≡ least_pair below same l (drop (j + 1) l) r
  unfolding least_pair
  pair-on j m p {r} e =
      ap (λ (k : List ℕ). least_pair below same l k m) (drop-cons l j 0 p) ∙ ap (least_pair below same l (drop (suc j) l)) (sym e)
      ∙ ap (λ (i : ℕ). least_pair below same l (drop i l) r) (sym (add-one j))

  pub pair_end : (j m : ℕ) → length l ≤ j → least_pair below same l (drop j l) m ≡ m
  unfolding least_pair
  pair_end j m p = ap (λ (k : List ℕ). least_pair below same l k m) (drop_of_length-le l {i = j} p)

-- ---- the verdict

module _ (s l m : List ℕ) (e : m ≡ l) {order : ℕ} (p : order ≡ least_next (same_record s) m 4294967296) where
  whole : {name : ℕ} → name ≡ least_pair (below_by (key_at s 9 0)) (same_record s) m m 4294967296 → told order name ≡ judged_by s l
  unfolding judged_by
  whole {name} q =
      ap (λ (i : ℕ). told i name) p ∙ ap (told (least_next (same_record s) m 4294967296)) q
      ∙ ap (λ (k : List ℕ). told (least_next (same_record s) k 4294967296) (least_pair (below_by (key_at s 9 0)) (same_record s) k k 4294967296)) e

  pub judged_order : order < 4294967296 → (name : ℕ) {v : Verdict} → v ≡ told order name → v ≡ judged_by s l
  judged_order h name w = w ∙ told_order order name h ∙ sym (told_order order _ h) ∙ whole refl

  pub judged_pair : {name : ℕ} → name ≡ least_pair (below_by (key_at s 9 0)) (same_record s) m m 4294967296 → {v : Verdict} → v ≡ told order name → v ≡ judged_by s l
  judged_pair q w = w ∙ whole q
