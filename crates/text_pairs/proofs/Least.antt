-- The least pair of a sorted list: no file and folder of one name have a later one that is smaller, and it is the later of such two. Assumes nothing.
use Prim.Native.Nat.{ℕ, zero, suc, ◌-◌, ◌%◌, ◌<◌, ◌≤◌, min, max}
use native.Mathlib.Decide.{dec_le, dec_lt}
use native.Mathlib.Omega.{arith}
use mathlib.Core.Path.{◌≡◌, refl, ap, sym, ◌∙◌}
use mathlib.Core.Logic.{◌⊎◌, inl, inr, ⊎_elim}
use mathlib.Core.Bool.{Bool, true, false, false≢true}
use mathlib.Core.List.Memᴰ
use mathlib.Core.List.{List, [], ◌∷◌, Memᴰ}
use lib.Dec.{eqb, ltb}
use lib.ListN.{length, get_or}
use borrow.Author.Tests.{ltb-true, eqb-false, ne_eqb}
use Rattle.ground.specs.Basics.{pick}
use Rattle.keys.specs.Key.{below_by}
use Rattle.keys.specs.Strict.{Strict}
use Rattle.keys.proofs.Keys.{key_strict}
use Rattle.sorting.specs.Sort.{Ascends, UpTo}
use Rattle.sorting.proofs.Sorted.{ascends_pair, up-below, up_trans}
use Rattle.sorting.proofs.Repeats.{place-mem, mem-place, up_same, between}
use Rattle.mend_kept.specs.Code.{Lowest}
use Rattle.text_pairs.specs.Pairs.{count_below, same_at, same_before, beside_of, least_with, least_pair}
use Rattle.text_pairs.proofs.Laws.{count_lowest, same_in, before-some, beside_before, beside_here}

-- ---- in a sorted list those below an element stand first

module _ (below : ℕ → ℕ → Bool) (strict : Strict below) (x : ℕ) where
  pub lowest_count : (l : List ℕ) → Ascends below l → Lowest below l x (count_below below l x)
  unfolding count_below Ascends
  lowest_count [] up = record { inside = omega arith; under = λ j p. absurd (omega arith); over = λ j p q. absurd (omega arith) }
  lowest_count (y ∷ l) up = go (below y x) refl (lowest_count l (tail l up))
    where
      tail : (l : List ℕ) → Ascends below (y ∷ l) → Ascends below l
      tail [] u = tt
      tail (z ∷ l) u = u.1

      go : (b : Bool) → below y x ≡ b → Lowest below l x (count_below below l x)
          → Lowest below (y ∷ l) x (pick b (suc (count_below below l x)) (count_below below l x))
      go true e g = record { inside = omega (arith, g.inside); under = under; over = over }
        where
          under : (j : ℕ) → j < suc (count_below below l x) → below (get_or (y ∷ l) j 0) x ≡ true
          under zero p = e
          under (suc j) p = g.under j (omega arith)

          over : (j : ℕ) → suc (count_below below l x) ≤ j → j < length (y ∷ l) → below (get_or (y ∷ l) j 0) x ≡ false
          over zero p q = absurd (omega arith)
          over (suc j) p q = g.over j (omega arith) (omega arith)
      go false e g =
          let w : (j : ℕ) → j < length (y ∷ l) → below (get_or (y ∷ l) j 0) x ≡ false =
          λ j q. up_trans below strict x y (get_or (y ∷ l) j 0) e (ascends_pair below strict 0 (y ∷ l) up 0 j (omega arith) q) in
          let z : 0 ≡ count_below below l x =
          count_lowest below l x 0 (record { inside = omega arith; under = λ j p. absurd (omega arith); over = λ j p q. w (suc j) (omega arith) }) in
          rw (← z) (record { inside = omega arith; under = λ j p. absurd (omega arith); over = λ j p q. w j q })

-- ---- beside that place

module _ (key : ℕ → List ℕ) (same : ℕ → ℕ → Bool) (l : List ℕ) (up : Ascends (below_by key) l) (x k : ℕ) (g : Lowest (below_by key) l x k)
    (there : (y : ℕ) → Memᴰ y l → same y x ≡ true → key y ≡ key x) where
  rises : (i j : ℕ) → i ≤ j → j < length l → UpTo (below_by key) (get_or l i 0) (get_or l j 0)
  rises = ascends_pair (below_by key) (key_strict key) 0 l up

  before_le : (i : ℕ) → i < k → UpTo (below_by key) (get_or l i 0) x
  before_le i p = up-below (below_by key) (key_strict key) (get_or l i 0) x (g.under i p)

  abbrev Found : Type 0
  Found = (a : ℕ) × Memᴰ a l × (same a x ≡ true) × (beside_of same l k x ≡ max a x)

  at_place : (i : ℕ) → same_at same l i x ≡ true → (i < length l) × (same (get_or l i 0) x ≡ true)
  unfolding same_at
  at_place i = go (ltb i (length l)) refl
    where
      go : (b : Bool) → ltb i (length l) ≡ b → pick b (same (get_or l i 0) x) false ≡ true → (i < length l) × (same (get_or l i 0) x ≡ true)
      go true e f = (ltb-true i (length l) e, f)
      go false e f = absurd (false≢true f)

  before-place : same_before same l k x ≡ true → (0 < k) × (k - 1 < length l) × (same (get_or l (k - 1) 0) x ≡ true)
  unfolding same_before
  before-place = go (eqb k 0) refl
    where
      go : (b : Bool) → eqb k 0 ≡ b → pick b false (same_at same l (k - 1) x) ≡ true → (0 < k) × (k - 1 < length l) × (same (get_or l (k - 1) 0) x ≡ true)
      go true e f = absurd (false≢true f)
      go false e f = let n : k ≡ 0 → ⊥ = eqb-false k 0 e in let w = at_place (k - 1) f in (some k n, w.0, w.1)
        where
          some : (k : ℕ) → (k ≡ 0 → ⊥) → 0 < k
          some zero n = absurd (n refl)
          some (suc k) n = omega arith

  none : same_before same l k x ≡ false → same_at same l k x ≡ false → beside_of same l k x ≡ 4294967296
  unfolding beside_of
  none e f = rw (e, f) refl

  pub beside_hit : (beside_of same l k x ≡ 4294967296) ⊎ ((a : ℕ) × Memᴰ a l × (same a x ≡ true) × (beside_of same l k x ≡ max a x))
  beside_hit = go (same_before same l k x) refl (same_at same l k x) refl
    where
      go : (b : Bool) → same_before same l k x ≡ b → (c : Bool) → same_at same l k x ≡ c
          → (beside_of same l k x ≡ 4294967296) ⊎ ((a : ℕ) × Memᴰ a l × (same a x ≡ true) × (beside_of same l k x ≡ max a x))
      go true e c f =
          let w = before-place e in
          let m = place-mem 0 l (k - 1) w.1 in
          let h = up_same key (get_or l (k - 1) 0) x (before_le (k - 1) (omega (arith, w.0))) (there (get_or l (k - 1) 0) m w.2) in
          inr (get_or l (k - 1) 0, m, w.2, sym (beside_before same l k x e) ∙ (let z : x ≡ max (get_or l (k - 1) 0) x = omega (arith, h) in z))
      go false e true f =
          let w = at_place k f in
          let m = place-mem 0 l k w.0 in
          let h = up_same key x (get_or l k 0) (g.over k (omega arith) w.0) (sym (there (get_or l k 0) m w.1)) in
          inr (get_or l k 0, m, w.1, sym (beside_here same l k x e w.0 w.1) ∙ (let z : get_or l k 0 ≡ max (get_or l k 0) x = omega (arith, h) in z))
      go false e false f = inl (none e f)

  module _ (back : (y : ℕ) → Memᴰ y l → key y ≡ key x → same y x ≡ true) where
    pub beside_low : (a : ℕ) → Memᴰ a l → same a x ≡ true → beside_of same l k x ≤ max a x
    beside_low a m e = go (mem-place 0 a l m) (same_before same l k x) refl
      where
        go : (i : ℕ) × (i < length l) × (get_or l i 0 ≡ a) → (b : Bool) → same_before same l k x ≡ b → beside_of same l k x ≤ max a x
        go w true f = omega (arith, beside_before same l k x f)
        go w false f =
            elim (dec_lt w.0 k) [
              | yes p ↦ absurd (false≢true (sym f ∙ sym (before-some same l k x (λ z. omega (arith, z, p)) (sym (near p)))))
              | no p ↦ (
                  let q : k < length l = omega (arith, w.1) in
                  let u : UpTo (below_by key) x (get_or l k 0) = g.over k (omega arith) q in
                  let v : UpTo (below_by key) (get_or l k 0) a = rw w.2 at (rises k w.0 (omega arith) w.1) in
                  let h : key (get_or l k 0) ≡ key a = between key x (get_or l k 0) a u v (sym (there a m e)) in
                  let r : get_or l k 0 ≤ a = up_same key (get_or l k 0) a v h in
                  omega (arith, r, beside_here same l k x f q (back (get_or l k 0) (place-mem 0 l k q) (h ∙ there a m e))))
            ]
          where
            near : w.0 < k → same_at same l (k - 1) x ≡ true
            near p =
                let q : k - 1 < length l = omega (arith, g.inside, p) in
                let v : UpTo (below_by key) a (get_or l (k - 1) 0) = rw w.2 at (rises w.0 (k - 1) (omega arith) q) in
                let h : key (get_or l (k - 1) 0) ≡ key x = between key a (get_or l (k - 1) 0) x v (before_le (k - 1) (omega arith)) (there a m e) in
                sym (same_in same l (k - 1) x q (sym (back (get_or l (k - 1) 0) (place-mem 0 l (k - 1) q) h)))

-- ---- all pairs

module _ (below same : ℕ → ℕ → Bool) (l : List ℕ) where
  abbrev pub file_of : ℕ → ℕ
  file_of z = beside_of same l (count_below below l (z - 1)) (z - 1)

  with_le : (z least : ℕ) → least_with below same l z least ≤ least
  unfolding least_with
  with_le z least = go (eqb (z % 2) 0)
    where
      go : (b : Bool) → pick b least (min least (file_of z)) ≤ least
      go true = omega arith
      go false = omega arith

  with_low : (z least : ℕ) → (z % 2 ≡ 0 → ⊥) → least_with below same l z least ≤ file_of z
  unfolding least_with
  with_low z least n =
      let e : pick (eqb (z % 2) 0) least (min least (file_of z)) ≡ min least (file_of z) =
      ap (λ (b : Bool). pick b least (min least (file_of z))) (ne_eqb (z % 2) 0 n) in
      omega (arith, e)

  with_hit : (z least : ℕ) → (least_with below same l z least ≡ least) ⊎ ((z % 2 ≡ 0 → ⊥) × (least_with below same l z least ≡ file_of z))
  unfolding least_with
  with_hit z least = go (eqb (z % 2) 0) refl
    where
      go : (b : Bool) → eqb (z % 2) 0 ≡ b → (pick b least (min least (file_of z)) ≡ least) ⊎ ((z % 2 ≡ 0 → ⊥) × (pick b least (min least (file_of z)) ≡ file_of z))
      go true e = inl refl
      go false e = elim (dec_le least (file_of z)) [ yes q ↦ inl (omega arith) | no q ↦ inr (eqb-false (z % 2) 0 e, omega arith) ]

  pub pair_le : (m : List ℕ) (least : ℕ) → least_pair below same l m least ≤ least
  unfolding least_pair
  pair_le [] least = omega arith
  pair_le (z ∷ m) least = omega (arith, pair_le m (least_with below same l z least), with_le z least)

  pub pair-low : (m : List ℕ) (least z : ℕ) → Memᴰ z m → (z % 2 ≡ 0 → ⊥) → least_pair below same l m least ≤ file_of z
  unfolding least_pair
  pair-low [] least z i n = absurd (Memᴰ.not-nil i)
  pair-low (y ∷ m) least z i n =
      ⊎_elim (λ e. rw (← e) (omega (arith, pair_le m (least_with below same l z least), with_low z least n)))
      (λ j. pair-low m (least_with below same l y least) z j n) (Memᴰ.cases_cons i)

  pub pair_hit : (m : List ℕ) (least : ℕ)
      → (least_pair below same l m least ≡ least) ⊎ ((z : ℕ) × Memᴰ z m × (z % 2 ≡ 0 → ⊥) × (least_pair below same l m least ≡ file_of z))
  unfolding least_pair
  pair_hit [] least = inl refl
  pair_hit (z ∷ m) least =
      ⊎_elim (λ e. ⊎_elim (λ f. inl (e ∙ f)) (λ f. inr (z, Memᴰ.head refl, f.0, e ∙ f.1)) (with_hit z least))
      (λ w. inr (w.0, Memᴰ.tail w.1, w.2, w.3)) (pair_hit m (least_with below same l z least))
