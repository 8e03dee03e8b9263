-- The laws of the halving and of the lookup. Nothing else opens `halving`, `search_from`, `lookup_in` or `any_in`. Assumes nothing.
use mathlib.Core.Path.{◌≡◌, refl, sym, ap, subst, ◌∙◌}
use mathlib.Core.Bool.{Bool, true, false}
use mathlib.Core.List.{List}
use mathlib.Core.Logic.{⊎_elim}
use Prim.Native.Nat.{ℕ, zero, suc, ◌+◌, ◌-◌, ◌*◌, ◌/◌, ◌^◌, ◌≤◌, ◌<◌, max}
use native.Mathlib.Decide.{dec_lt}
use native.Mathlib.Omega.{arith}
use lib.ListN.{length}
use lib.Count.{leading_length}
use borrow.Author.Tests.{eq-eqb, ne_eqb, lt-ltb, le-ltb}
use Rattle.ground.specs.Verdict.{verdict, gate_of}
use Rattle.ground.specs.declared.Verdict.{Verdict}
use Rattle.ground.proofs.Laws.{gate_shut}
use Rattle.order.specs.Order.{name_order}
use Rattle.entry.specs.declared.EntryRecord.{EntryRecord}
use Rattle.entry.specs.Record.{well_formed, name_of, folder_of}
use Rattle.lookup.specs.declared.Looked.{Looked}
use Rattle.lookup.specs.Halving.{Met, bad, met, found, absent, declined, mid, turn, halving, search_from, most_comparisons}
use Rattle.lookup.specs.Lookup.{compare_entry, nth, compare_at, lookup_in, any_in}
use Rattle.std.specs.Prelude.{Err, Ok}
use Rattle.std.specs.declared.cmp.Ordering.{Ordering}
use Rattle.std.specs.declared.cmp.Ordering.TheVariants.{Equal, Greater, Less}

-- ---- binary digits

-- n is below 2 to the number of its digits, and no fewer digits would do
pub digits_are : (n : ℕ) → n < 2 ^ 64 → (n < 2 ^ most_comparisons n) × (2 ^ most_comparisons n ≤ 2 * n + 1)
unfolding most_comparisons
digits_are n h =
    let m = leading_length 64 n h in
    subst (λ (k : ℕ). (n < 2 ^ k) × (2 ^ k ≤ 2 * n + 1)) (omega (arith, m.1)) (m.2, m.3)

-- ---- the middle

pub mid_end : (low high : ℕ) → high ≤ low → mid low high ≡ low
unfolding mid
mid_end low high h = omega arith

module _ {low high : ℕ} (h : low < high) where
  pub mid-low : low ≤ mid low high
  unfolding mid
  mid-low = omega arith

  pub mid-high : mid low high < high
  unfolding mid
  mid-high = omega arith

-- ---- the halving

turn-same : (o : Met) (g g' : ℕ → ℕ → ℕ → Looked) (low high m c : ℕ) → g (m + 1) high (c + 1) ≡ g' (m + 1) high (c + 1)
    → g low m (c + 1) ≡ g' low m (c + 1) → turn o g low high m c ≡ turn o g' low high m c
turn-same bad g g' low high m c p q = refl
turn-same (met Less) g g' low high m c p q = p
turn-same (met Equal) g g' low high m c p q = refl
turn-same (met Greater) g g' low high m c p q = q

halving_end : (f : ℕ → Met) (k low high c : ℕ) → high ≤ low → halving f k low high c ≡ absent c
unfolding halving
halving_end f zero low high c h = refl
halving_end f (suc k) low high c h = simp (le-ltb low high h)

halving-more : (f : ℕ → Met) (k low high c : ℕ) → low < high → halving f (suc k) low high c ≡ turn (f (mid low high)) (halving f k) low high (mid low high) c
unfolding halving
halving-more f k low high c h = simp (lt-ltb low high h)

-- turns beyond the distance change nothing
enough : (f : ℕ → Met) (k j low high c : ℕ) → high - low ≤ k → high - low ≤ j → halving f k low high c ≡ halving f j low high c
enough f zero j low high c a b = halving_end f zero low high c (omega arith) ∙ sym (halving_end f j low high c (omega arith))
enough f (suc k) zero low high c a b = halving_end f (suc k) low high c (omega arith) ∙ sym (halving_end f zero low high c (omega arith))
enough f (suc k) (suc j) low high c a b = elim (dec_lt low high) [
  | yes h ↦ halving-more f k low high c h
      ∙ turn-same (f (mid low high)) (halving f k) (halving f j) low high (mid low high) c
      (enough f k j (mid low high + 1) high (c + 1) (omega (arith, mid-low h)) (omega (arith, mid-low h)))
      (enough f k j low (mid low high) (c + 1) (omega (arith, mid-high h)) (omega (arith, mid-high h)))
      ∙ sym (halving-more f j low high c h)
  | no h ↦ halving_end f (suc k) low high c (omega arith) ∙ sym (halving_end f (suc j) low high c (omega arith))
]

-- the two laws that say what the search is: nothing is left, or one turn
pub search-end : (f : ℕ → Met) (low high c : ℕ) → high ≤ low → search_from f low high c ≡ absent c
unfolding search_from
search-end f low high c h = halving_end f (high - low) low high c h

pub search_more : (f : ℕ → Met) (low high c : ℕ) → low < high → search_from f low high c ≡ turn (f (mid low high)) (search_from f) low high (mid low high) c
unfolding search_from
search_more f low high c h =
    enough f (high - low) (suc (high - low)) low high c (omega arith) (omega arith)
    ∙ halving-more f (high - low) low high c h
    ∙ turn-same (f (mid low high)) (halving f (high - low)) (search_from f) low high (mid low high) c
    (enough f (high - low) (high - (mid low high + 1)) (mid low high + 1) high (c + 1) (omega (arith, mid-low h)) (omega arith))
    (enough f (high - low) (mid low high - low) low (mid low high) (c + 1) (omega (arith, mid-high h)) (omega arith))

-- What holds of each way that a turn goes holds of every answer.
pub record Turns (f : ℕ → Met) (P : ℕ → ℕ → ℕ → Looked → Type 0) : Type 0 where
  pub ended : (low high c : ℕ) → high ≤ low → P low high c (absent c)
  pub broken : (low high c : ℕ) → low < high → f (mid low high) ≡ bad → P low high c (declined (verdict 10 (mid low high)))
  pub below : (low high c : ℕ) (r : Looked) → low < high → f (mid low high) ≡ met Less → P (mid low high + 1) high (c + 1) r → P low high c r
  pub same : (low high c : ℕ) → low < high → f (mid low high) ≡ met Equal → P low high c (found (mid low high) (c + 1))
  pub above : (low high c : ℕ) (r : Looked) → low < high → f (mid low high) ≡ met Greater → P low (mid low high) (c + 1) r → P low high c r

module _ (f : ℕ → Met) (P : ℕ → ℕ → ℕ → Looked → Type 0) (t : Turns f P) where
  one-turn : (low high c : ℕ) → low < high → P (mid low high + 1) high (c + 1) (search_from f (mid low high + 1) high (c + 1))
      → P low (mid low high) (c + 1) (search_from f low (mid low high) (c + 1)) → (o : Met) → f (mid low high) ≡ o
      → P low high c (turn o (search_from f) low high (mid low high) c)
  one-turn low high c h p q bad e = t.broken low high c h e
  one-turn low high c h p q (met Less) e = t.below low high c _ h e p
  one-turn low high c h p q (met Equal) e = t.same low high c h e
  one-turn low high c h p q (met Greater) e = t.above low high c _ h e q

  within : (k low high c : ℕ) → high - low ≤ k → P low high c (search_from f low high c)
  within zero low high c a = rw (search-end f low high c (omega arith)) (t.ended low high c (omega arith))
  within (suc k) low high c a = elim (dec_lt low high) [
    | yes h ↦ subst (P low high c) (sym (search_more f low high c h))
        (one-turn low high c h
        (within k (mid low high + 1) high (c + 1) (omega (arith, mid-low h)))
        (within k low (mid low high) (c + 1) (omega (arith, mid-high h)))
        (f (mid low high)) refl)
    | no h ↦ rw (search-end f low high c (omega arith)) (t.ended low high c (omega arith))
  ]

  pub by_turns : (low high c : ℕ) → P low high c (search_from f low high c)
  by_turns low high c = within (high - low) low high c (omega arith)

-- ---- one record

module _ (h : ℕ) (object name : List ℕ) (folder : Bool) (e : EntryRecord) where
  pub met-bad : well_formed h (length object) e ≡ false → compare_entry h object name folder e ≡ bad
  unfolding compare_entry
  met-bad w = rw w

  pub met-good : well_formed h (length object) e ≡ true → compare_entry h object name folder e ≡ met (name_order (name_of object e) (folder_of e) name folder)
  unfolding compare_entry
  met-good w = rw w

-- the search between low and high among records, where e is the one in the middle
module _ (h : ℕ) (object : List ℕ) (records : List EntryRecord) (name : List ℕ) (folder : Bool) (low high c : ℕ) (l : low < high) where
  abbrev how : ℕ → Met
  how = compare_at h object records name folder

  search_met : (o : Met) → how (mid low high) ≡ o → search_from how low high c ≡ turn o (search_from how) low high (mid low high) c
  search_met o q = search_more how low high c l ∙ ap (λ (x : Met). turn x (search_from how) low high (mid low high) c) q

  -- the middle, in one sum
  half : (low + high) / 2 ≡ mid low high
  unfolding mid
  half = omega arith

  search_half : (o : Met) → how ((low + high) / 2) ≡ o → search_from how low high c ≡ turn o (search_from how) low high ((low + high) / 2) c
  search_half o = rw half (search_met o)

  module _ (e : EntryRecord) (read : e ≡ nth records ((low + high) / 2)) where
    pub search_bad : well_formed h (length object) e ≡ false → search_from how low high c ≡ declined (verdict 10 ((low + high) / 2))
    search_bad w = search_half bad (ap (compare_entry h object name folder) (sym read) ∙ met-bad h object name folder e w)

    -- by what the leaves answer that compare it
    pub search_told : well_formed h (length object) e ≡ true → (o : Ordering) {sort : Bool} {r : Ordering} → sort ≡ folder_of e
        → r ≡ name_order (name_of object e) sort name folder → r ≡ o
        → search_from how low high c ≡ turn (met o) (search_from how) low high ((low + high) / 2) c
    search_told w o {sort} {r} f k t =
        let q : name_order (name_of object e) (folder_of e) name folder ≡ o = ap (λ (x : Bool). name_order (name_of object e) x name folder) (sym f) ∙ sym k ∙ t in
        search_half (met o) (ap (compare_entry h object name folder) (sym read) ∙ met-good h object name folder e w ∙ ap met q)

-- ---- the whole

module _ (h : ℕ) (object : List ℕ) (records : List EntryRecord) (name : List ℕ) (folder : Bool) where
  pub lookup-shut : (v : Verdict) → gate_of h (max (length object) (length name)) (length records) ≡ Err v → lookup_in h object records name folder ≡ declined v
  unfolding lookup_in
  lookup-shut v e = rw e

  pub lookup_open : gate_of h (max (length object) (length name)) (length records) ≡ Ok tt
      → lookup_in h object records name folder ≡ search_from (compare_at h object records name folder) 0 (length records) 0
  unfolding lookup_in
  lookup_open e = rw e

-- ---- a name of any sort

module _ (h : ℕ) (object : List ℕ) (records : List EntryRecord) (name : List ℕ) {first : Looked} (f : first ≡ lookup_in h object records name false) where
  pub any-first : (first.verdict.number ≡ 15 → ⊥) → any_in h object records name ≡ first
  unfolding any_in
  any-first n = rw (← f) (simp (ne_eqb first.verdict.number 15 n))

  module _ (gone : first.verdict.number ≡ 15) {second : Looked} (s : second ≡ lookup_in h object records name true) where
    pub any-broken : second.verdict.number ≡ 10 → any_in h object records name ≡ second
    unfolding any_in
    any-broken b = rw (← f, ← s) (simp (eq-eqb first.verdict.number 15 gone, eq-eqb second.verdict.number 10 b))

    pub any-second : (second.verdict.number ≡ 10 → ⊥)
        → any_in h object records name ≡ record { verdict = second.verdict; index = second.index; compared = first.compared + second.compared }
    unfolding any_in
    any-second n = rw (← f, ← s) (simp (eq-eqb first.verdict.number 15 gone, ne_eqb second.verdict.number 10 n))

pub any-shut : (h : ℕ) (object : List ℕ) (records : List EntryRecord) (name : List ℕ) (v : Verdict)
    → gate_of h (max (length object) (length name)) (length records) ≡ Err v → any_in h object records name ≡ declined v
any-shut h object records name v e =
    any-first h object records name (sym (lookup-shut h object records name false v e))
    (⊎_elim
    (λ (q : v ≡ verdict 1 0). λ z. omega (arith, ap (λ (x : Verdict). x.number) q, z))
    (λ (q : v ≡ verdict 2 0). λ z. omega (arith, ap (λ (x : Verdict). x.number) q, z))
    (gate_shut h (max (length object) (length name)) (length records) v e))
