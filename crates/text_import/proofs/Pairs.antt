-- The least pair of the elements in order is the least that repeats a name, where none repeats a name and a sort. Assumes nothing.
use Prim.Native.Nat.{ℕ, ◌+◌, ◌-◌, ◌*◌, ◌/◌, ◌%◌, ◌<◌, ◌≤◌, max}
use native.Mathlib.Decide.{dec_lt}
use native.Mathlib.Omega.{arith}
use mathlib.Core.Path.{◌≡◌, refl, ap, sym, ◌∙◌}
use mathlib.Core.Logic.{◌⊎◌, inl, inr, ⊎_elim}
use mathlib.Core.Bool.{Bool, true, false}
use mathlib.Core.List.{List, map, Memᴰ}
use lib.Dec.{eqb}
use lib.ListN.{drop}
use borrow.Author.Tests.{eq-eqb, eqb-true}
use Rattle.ground.proofs.Laws.{and_left, and_right, same_true, same_refl}
use Rattle.keys.specs.Key.{name_at, key_at, below_by}
use Rattle.keys.proofs.Keys.{key_strict}
use Rattle.sorting.specs.Sort.{Ascends}
use Rattle.text_record.specs.Record.{text_number, entry_in}
use Rattle.text_repeats.specs.Least.{same_record}
use Rattle.text_repeats.proofs.Least.{Least}
use Rattle.text_pairs.specs.Pairs.{count_below, beside_of, least_pair}
use Rattle.text_pairs.proofs.Least.{lowest_count, beside_hit, beside_low, file_of, pair-low, pair_hit}
use Rattle.text_import.proofs.Places.{mem-map, map-mem, el, element_range, element_odd}
use Rattle.text_import.proofs.Repeats.{S, same_key, key-same}

-- ---- elements with and without their sort

same_turn : (s : List ℕ) (x y : ℕ) → same_record s x y ≡ true → same_record s y x ≡ true
unfolding same_record
same_turn s x y e =
    let a : x % 2 ≡ y % 2 = eqb-true (x % 2) (y % 2) (and_left (eqb (x % 2) (y % 2)) _ e) in
    let b : name_at s 9 0 x ≡ name_at s 9 0 y = same_true (name_at s 9 0 x) (name_at s 9 0 y) (and_right (eqb (x % 2) (y % 2)) _ e) in
    rw (eq-eqb (y % 2) (x % 2) (sym a), b, same_refl (name_at s 9 0 y)) refl

-- so have the elements of folders there
same_next : (s : List ℕ) (p q x y : ℕ) → x ≡ p * 2 → y ≡ q * 2 → same_record s x y ≡ true → same_record s (x + 1) (y + 1) ≡ true
unfolding same_record name_at
same_next s p q x y c d f =
    let i : (x + 1) / 2 ≡ x / 2 = omega (arith, c) in
    let j : (y + 1) / 2 ≡ y / 2 = omega (arith, d) in
    let n : (x + 1) % 2 ≡ (y + 1) % 2 = omega (arith, c, d) in
    rw (i, j, eq-eqb ((x + 1) % 2) ((y + 1) % 2) n) (and_right (eqb (x % 2) (y % 2)) _ f)

same-sort : (s : List ℕ) (x y : ℕ) → same_record s x y ≡ true → x % 2 ≡ y % 2
unfolding same_record
same-sort s x y e = eqb-true (x % 2) (y % 2) (and_left (eqb (x % 2) (y % 2)) _ e)

module _ (k h : ℕ) (s : List ℕ) where
  plain : (p : ℕ) → el k h s false p ≡ p * 2
  plain p =
      let w = element_range k h s false p (entry_in k h (drop p s)).mode in
      omega (arith, w.0, w.1, element_odd k h s false p (entry_in k h (drop p s)).mode)

  -- an element is twice its place, or one more
  sorts : (p : ℕ) → (el k h s true p ≡ el k h s false p) ⊎ (el k h s true p ≡ el k h s false p + 1)
  sorts p =
      let w = element_range k h s true p (entry_in k h (drop p s)).mode in
      let v = plain p in
      elim (dec_lt (p * 2) (el k h s true p)) [ yes q ↦ inr (omega (arith, w.1, v)) | no q ↦ inl (omega (arith, w.0, v)) ]

  file : (p : ℕ) → el k h s true p % 2 ≡ 0 → el k h s true p ≡ el k h s false p
  file p e = ⊎_elim (λ z. z) (λ z. absurd (omega (arith, e, z, plain p))) (sorts p)

  folder : (p : ℕ) → (el k h s true p % 2 ≡ 0 → ⊥) → el k h s true p ≡ el k h s false p + 1
  folder p n = ⊎_elim (λ z. absurd (n (omega (arith, z, plain p)))) (λ z. z) (sorts p)

  module _ (A : List ℕ) (good : (p : ℕ) → Memᴰ p A → text_number k h (drop p s) ≡ 0)
      (never : (p q : ℕ) → Memᴰ p A → Memᴰ q A → p < q → S k h s true p q ≡ true → ⊥)
      (m : List ℕ) (up : Ascends (below_by (key_at s 9 0)) m) (there : (p : ℕ) → Memᴰ p A → Memᴰ (el k h s true p) m)
      (back : (x : ℕ) → Memᴰ x m → (p : ℕ) × Memᴰ p A × (x ≡ el k h s true p)) where
    abbrev below : ℕ → ℕ → Bool
    below = below_by (key_at s 9 0)

    abbrev r : ℕ
    r = least_pair (below_by (key_at s 9 0)) (same_record s) m m 4294967296

    -- a record's element as a file, and one in the list of its key
    again : (q : ℕ) → Memᴰ q A → (y : ℕ) → Memᴰ y m → key_at s 9 0 y ≡ key_at s 9 0 (el k h s false q) → same_record s y (el k h s false q) ≡ true
    again q b y i e =
        let w = back y i in
        ap (λ (j : ℕ). same_record s j (el k h s false q)) w.2
        ∙ key-same k h s true false w.0 q (good w.0 w.1) (good q b) (sym (ap (key_at s 9 0) w.2) ∙ e)

    -- a folder and a file of its name
    pair_le : (p q : ℕ) → Memᴰ p A → Memᴰ q A → el k h s true q ≡ el k h s false q + 1 → el k h s true p ≡ el k h s false p
        → same_record s (el k h s false p) (el k h s false q) ≡ true → r ≤ max (el k h s false p) (el k h s false q)
    pair_le p q a b e f d =
        let x : ℕ = el k h s false q in
        let z : el k h s true q - 1 ≡ el k h s false q = omega (arith, e) in
        let g = lowest_count (below_by (key_at s 9 0)) (key_strict (key_at s 9 0)) (el k h s false q) m up in
        let u = pair-low (below_by (key_at s 9 0)) (same_record s) m m 4294967296 (el k h s true q) (there q b) (λ o. omega (arith, o, e, plain q)) in
        let v : beside_of (same_record s) m (count_below (below_by (key_at s 9 0)) m (el k h s false q)) (el k h s false q)
        ≤ max (el k h s false p) (el k h s false q) =
        beside_low (key_at s 9 0) (same_record s) m up (el k h s false q) (count_below (below_by (key_at s 9 0)) m (el k h s false q)) g
        (λ y i o. same_key s y (el k h s false q) o) (again q b) (el k h s false p) (rw f at (there p a)) d in
        omega (arith, u, v, ap (λ (j : ℕ). beside_of (same_record s) m (count_below (below_by (key_at s 9 0)) m j) j) z)

    low : (p q : ℕ) → Memᴰ p A → Memᴰ q A → p < q → S k h s false p q ≡ true → r ≤ el k h s false q
    low p q a b l e = go (sorts p) (sorts q)
      where
        both : {x y : ℕ} → el k h s true p ≡ x → el k h s true q ≡ y → same_record s x y ≡ true → r ≤ el k h s false q
        both c d f = absurd (never p q a b l (ap (λ (i : ℕ). same_record s i (el k h s true q)) c ∙ ap (same_record s _) d ∙ f))

        go : (el k h s true p ≡ el k h s false p) ⊎ (el k h s true p ≡ el k h s false p + 1)
            → (el k h s true q ≡ el k h s false q) ⊎ (el k h s true q ≡ el k h s false q + 1) → r ≤ el k h s false q
        go (inl c) (inl d) = both c d e
        go (inr c) (inr d) = both c d (same_next s p q (el k h s false p) (el k h s false q) (plain p) (plain q) e)
        go (inl c) (inr d) = omega (arith, pair_le p q a b d c e, plain p, plain q)
        go (inr c) (inl d) = omega (arith, pair_le q p b a c d (same_turn s (el k h s false p) (el k h s false q) e), plain p, plain q)

    hit : (r ≡ 4294967296)
        ⊎ ((x : ℕ) × Memᴰ x (map (el k h s false) A) × Memᴰ r (map (el k h s false) A) × (x < r) × (same_record s x r ≡ true))
    hit = ⊎_elim inl (λ w. found w.0 (back w.0 w.1) w.2 w.3) (pair_hit (below_by (key_at s 9 0)) (same_record s) m m 4294967296)
      where
        two : (p q : ℕ) → Memᴰ p A → Memᴰ q A → (p ≡ q → ⊥) → same_record s (el k h s false p) (el k h s false q) ≡ true
            → r ≡ max (el k h s false p) (el k h s false q)
            → (x : ℕ) × Memᴰ x (map (el k h s false) A) × Memᴰ r (map (el k h s false) A) × (x < r) × (same_record s x r ≡ true)
        two p q a b n e f =
            elim (dec_lt p q) [
              | yes o ↦ (
                  let z : el k h s false q ≡ r = omega (arith, f, plain p, plain q) in
                  (el k h s false p, mem-map (el k h s false) p A a, rw z at (mem-map (el k h s false) q A b), omega (arith, z, plain p, plain q), rw z at e))
              | no o ↦ (
                  let z : el k h s false p ≡ r = omega (arith, f, plain p, plain q) in
                  let t : q < p = less p q n o in
                  let y : same_record s (el k h s false q) r ≡ true = rw z at (same_turn s (el k h s false p) (el k h s false q) e) in
                  (el k h s false q, mem-map (el k h s false) q A b, rw z at (mem-map (el k h s false) p A a), omega (arith, z, plain p, plain q, t), y))
            ]
          where
            less : (p q : ℕ) → (p ≡ q → ⊥) → (p < q → ⊥) → q < p
            less p q n o = elim (dec_lt q p) [ yes t ↦ t | no t ↦ absurd (n (omega arith)) ]

        found : (z : ℕ) → (q : ℕ) × Memᴰ q A × (z ≡ el k h s true q) → (z % 2 ≡ 0 → ⊥) → r ≡ file_of (below_by (key_at s 9 0)) (same_record s) m z
            → (r ≡ 4294967296)
            ⊎ ((x : ℕ) × Memᴰ x (map (el k h s false) A) × Memᴰ r (map (el k h s false) A) × (x < r) × (same_record s x r ≡ true))
        found z w n e =
            let q : ℕ = w.0 in
            let c : el k h s true w.0 ≡ el k h s false w.0 + 1 = folder w.0 (λ o. n (ap (λ (i : ℕ). i % 2) w.2 ∙ o)) in
            let d : z - 1 ≡ el k h s false w.0 = omega (arith, c, w.2) in
            let f : r ≡ beside_of (same_record s) m (count_below (below_by (key_at s 9 0)) m (el k h s false w.0)) (el k h s false w.0) =
            e ∙ ap (λ (j : ℕ). beside_of (same_record s) m (count_below (below_by (key_at s 9 0)) m j) j) d in
            let g = lowest_count (below_by (key_at s 9 0)) (key_strict (key_at s 9 0)) (el k h s false w.0) m up in
            ⊎_elim (λ o. inl (f ∙ o))
            (λ o.
            let v = back o.0 o.1 in
            let i : el k h s true v.0 ≡ el k h s false v.0 =
            file v.0
            (sym (ap (λ (i : ℕ). i % 2) v.2) ∙ same-sort s o.0 (el k h s false w.0) o.2
            ∙ (let y : el k h s false w.0 % 2 ≡ 0 = omega (arith, plain w.0) in y)) in
            let j : o.0 ≡ el k h s false v.0 = v.2 ∙ i in
            inr (two v.0 w.0 v.1 w.1 (λ y. omega (arith, i, c, ap (el k h s true) y, ap (el k h s false) y))
            (ap (λ (i : ℕ). same_record s i (el k h s false w.0)) (sym j) ∙ o.2) (f ∙ o.3 ∙ ap (λ (i : ℕ). max i (el k h s false w.0)) j)))
            (beside_hit (key_at s 9 0) (same_record s) m up (el k h s false w.0) (count_below (below_by (key_at s 9 0)) m (el k h s false w.0)) g
            (λ y i o. same_key s y (el k h s false w.0) o))

    pub is-pair : Least (same_record s) (map (el k h s false) A) (least_pair (below_by (key_at s 9 0)) (same_record s) m m 4294967296)
    is-pair = record {
      low = λ x y a b l e.
          let p = map-mem (el k h s false) x A a in
          let q = map-mem (el k h s false) y A b in
          rw q.2 (low p.0 q.0 p.1 q.1 (omega (arith, l, p.2, q.2, plain p.0, plain q.0)) (rw (p.2, q.2) at e));
      hit = hit;
    }
