-- What a lookup is good for: how often it compares, that in a sorted listing it finds exactly what is there, and what a slash does to it.
-- Assumes nothing.
use mathlib.Core.Path.{◌≡◌, refl, sym, ap, subst, ◌∙◌}
use mathlib.Core.Logic.{◌⊎◌, inl, inr, ⊎_elim, ◌↔◌}
use mathlib.Core.Bool.{Bool, true, false}
use mathlib.Core.List.{List, ◌∷◌, ◌++◌}
use Prim.Native.Nat.{ℕ, zero, suc, ◌+◌, ◌-◌, ◌*◌, ◌^◌, ◌≤◌, ◌<◌, max}
use native.Mathlib.Nat.{pow-suc}
use native.Mathlib.Numerals.{add-one}
use native.Mathlib.Decide.{dec_lt}
use native.Mathlib.Omega.{arith}
use lib.Dec.{eqb}
use lib.ListN.{length, length-append}
use Rattle.ground.specs.Basics.{pick}
use Rattle.ground.specs.Verdict.{verdict, gate_of}
use Rattle.ground.specs.Scan.{free_of}
use Rattle.ground.proofs.Laws.{gate_open, gate_fine}
use Rattle.order.specs.Order.{by_number, opposite, name_order}
use Rattle.order.proofs.Laws.{by_lt, by-eq, by_gt, by-below, by-same, by_above, order_flip, order_self, order_same, order_trans, order_slash}
use Rattle.entry.specs.declared.EntryRecord.{EntryRecord}
use Rattle.entry.specs.Record.{name_of, folder_of}
use Rattle.lookup.specs.declared.Looked.{Looked}
use Rattle.lookup.specs.Halving.{Met, bad, met, found, absent, mid, turn, search_from, most_comparisons}
use Rattle.lookup.specs.Lookup.{nth, compare_at, lookup_in, any_in, Allowed, standing, Sorted, Stands}
use Rattle.lookup.proofs.Laws.{digits_are, mid-high, search-end, search_more, Turns, by_turns, met-good, lookup-shut, lookup_open}
use Rattle.ground.specs.declared.Verdict.{Verdict}
use Rattle.std.specs.Prelude.{Err, Ok, Result, ⊤}
use Rattle.std.specs.declared.cmp.Ordering.{Ordering}
use Rattle.std.specs.declared.cmp.Ordering.TheVariants.{Equal, Greater, Less}

-- ---- how often it compares

-- a distance below 2 ^ j is settled by j more comparisons
abbrev Counts : ℕ → ℕ → ℕ → Looked → Type 0
Counts low high c r = (j : ℕ) → high - low < 2 ^ j → r.compared ≤ c + j

counts : (f : ℕ → Met) → Turns f Counts
unfolding mid
counts f = record {
  ended = λ low high c h j l. omega arith;
  broken = λ low high c h e j l. omega arith;
  below = λ low high c r h e ih. elim [ zero ↦ λ l. absurd (omega arith) | suc j ↦ λ l. omega (arith, ih j (omega (arith, pow-suc 2 j))) ];
  same = λ low high c h e. elim [ zero ↦ λ l. absurd (omega arith) | suc j ↦ λ l. omega arith ];
  above = λ low high c r h e ih. elim [ zero ↦ λ l. absurd (omega arith) | suc j ↦ λ l. omega (arith, ih j (omega (arith, pow-suc 2 j))) ];
}

pub search_count : (f : ℕ → Met) (n : ℕ) → n < 2 ^ 64 → (search_from f 0 n 0).compared ≤ most_comparisons n
search_count f n h = omega (arith, by_turns f Counts (counts f) 0 n 0 (most_comparisons n) (omega (arith, (digits_are n h).0)))

-- of every lookup, refused or not: it compares at most as many records as their number has binary digits
pub lookup-count : (h : ℕ) (object : List ℕ) (records : List EntryRecord) (name : List ℕ) (folder : Bool)
    → (lookup_in h object records name folder).compared ≤ most_comparisons (length records)
lookup-count h object records name folder = go (gate_of h (max (length object) (length name)) (length records)) refl
  where
    go : (g : Result ⊤ Verdict) → gate_of h (max (length object) (length name)) (length records) ≡ g
        → (lookup_in h object records name folder).compared ≤ most_comparisons (length records)
    go (Ok tt) e =
        rw (lookup_open h object records name folder e)
        (search_count (compare_at h object records name folder) (length records) (omega (arith, gate_open h _ (length records) e)))
    go (Err v) e = rw (lookup-shut h object records name folder v e) (omega arith)

-- so the count is small
pub looked-small : (h : ℕ) (object : List ℕ) (records : List EntryRecord) (name : List ℕ) (folder : Bool) {r : Looked} → r ≡ lookup_in h object records name folder
    → r.compared ≤ 64
unfolding most_comparisons
looked-small h object records name folder e =
    subst (λ (x : Looked). x.compared ≤ 64) (sym e) (omega (arith, lookup-count h object records name folder))

-- a name of any sort takes at most twice as many comparisons
pub any-count : (h : ℕ) (object : List ℕ) (records : List EntryRecord) (name : List ℕ)
    → (any_in h object records name).compared ≤ 2 * most_comparisons (length records)
unfolding any_in
any-count h object records name = go (eqb first.verdict.number 15) (eqb second.verdict.number 10)
  where
    first : Looked
    first = lookup_in h object records name false

    second : Looked
    second = lookup_in h object records name true

    a : first.compared ≤ most_comparisons (length records)
    a = lookup-count h object records name false

    b : second.compared ≤ most_comparisons (length records)
    b = lookup-count h object records name true

    go : (v w : Bool) → (pick v (pick w second (record { verdict = second.verdict; index = second.index; compared = first.compared + second.compared })) first).compared
        ≤ 2 * most_comparisons (length records)
    go true true = omega (arith, b)
    go true false = omega (arith, a, b)
    go false w = omega (arith, a)

-- ---- the halving where no record is bad

met-is : {m : Met} {o r : Ordering} → m ≡ met o → m ≡ met r → o ≡ r
met-is e f = cc

never_bad : {m : Met} {o : Ordering} → m ≡ met o → m ≡ bad → ⊥
never_bad e f = let z : ◌≡◌ {A = ℕ} 0 1 = cc in omega arith

-- what a search comes to: a record that compares as Same, or nothing
abbrev Ends : (ℕ → Met) → ℕ → Looked → Type 0
Ends f n r = ((i : ℕ) × (c : ℕ) × (r ≡ found i c) × (i < n) × (f i ≡ met Equal)) ⊎ ((c : ℕ) × (r ≡ absent c))

module _ (f : ℕ → Met) (n : ℕ) (o : ℕ → Ordering) (good : (i : ℕ) → i < n → f i ≡ met (o i)) where
  ends : Turns f (λ low high c r. high ≤ n → Ends f n r)
  ends = record {
    ended = λ low high c h a. inr (c, refl);
    broken = λ low high c h e a. absurd (never_bad (good (mid low high) (omega (arith, mid-high h))) e);
    below = λ low high c r h e ih a. ih a;
    same = λ low high c h e a. inl (mid low high, c + 1, refl, omega (arith, mid-high h), e);
    above = λ low high c r h e ih a. ih (omega (arith, mid-high h));
  }

-- where each record stands to the name as its place stands to p, p is found
module _ (f : ℕ → Met) (n p : ℕ) (places : (i : ℕ) → i < n → f i ≡ met (by_number i p)) where
  finds : Turns f (λ low high c r. high ≤ n → low ≤ p → p < high → (c' : ℕ) × (r ≡ found p c'))
  finds = record {
    ended = λ low high c h a b d. absurd (omega arith);
    broken = λ low high c h e a b d. absurd (never_bad (at low high h a) e);
    below = λ low high c r h e ih a b d. ih a (omega (arith, by-below (met-is (at low high h a) e))) d;
    same = λ low high c h e a b d. (c + 1, ap (λ (i : ℕ). found i (c + 1)) (by-same (met-is (at low high h a) e)));
    above = λ low high c r h e ih a b d. ih (omega (arith, mid-high h)) b (by_above (met-is (at low high h a) e));
  }
    where
      at : (low high : ℕ) → low < high → high ≤ n → f (mid low high) ≡ met (by_number (mid low high) p)
      at low high h a = places (mid low high) (omega (arith, mid-high h))

-- two ways to compare that agree on the records search alike
module _ (f g : ℕ → Met) (n : ℕ) (agree : (i : ℕ) → i < n → f i ≡ g i) where
  turned : (low high c : ℕ) → low < high → high ≤ n → (o : Met) → f (mid low high) ≡ o
      → search_from g low high c ≡ turn o (search_from g) low high (mid low high) c
  turned low high c h a o e =
      search_more g low high c h
      ∙ ap (λ (m : Met). turn m (search_from g) low high (mid low high) c) (sym (agree (mid low high) (omega (arith, mid-high h))) ∙ e)

  alike : Turns f (λ low high c r. high ≤ n → search_from g low high c ≡ r)
  alike = record {
    ended = λ low high c h a. search-end g low high c h;
    broken = λ low high c h e a. turned low high c h a bad e;
    below = λ low high c r h e ih a. turned low high c h a (met Less) e ∙ ih a;
    same = λ low high c h e a. turned low high c h a (met Equal) e;
    above = λ low high c r h e ih a. turned low high c h a (met Greater) e ∙ ih (omega (arith, mid-high h));
  }

-- ---- in a sorted listing

module _ (h : ℕ) (object : List ℕ) (records : List EntryRecord) (g : Sorted h object records) where
  -- an earlier record is below a later one
  earlier : (i j : ℕ) → i < j → j < length records → standing object records i j ≡ Less
  earlier i zero l m = absurd (omega arith)
  earlier i (suc j) l m =
      let next : standing object records j (suc j) ≡ Less = subst (λ (k : ℕ). standing object records j k ≡ Less) (add-one j) (g.ascends j (omega arith)) in
      elim (dec_lt i j) [
        | yes k ↦ order_trans _ _ _ _ _ _ (earlier i j k (omega arith)) next
        | no k ↦ let e : j ≡ i = omega arith in subst (λ (k : ℕ). standing object records k (suc j) ≡ Less) e next
      ]

  -- two records stand to each other as their places do
  pub standing-is : (i j : ℕ) → i < length records → j < length records → standing object records i j ≡ by_number i j
  standing-is i j l m = elim (dec_lt i j) [
    | yes k ↦ earlier i j k m ∙ sym (by_lt k)
    | no k ↦ elim (dec_lt j i) [
      | yes k' ↦ order_flip _ _ _ _ ∙ ap opposite (earlier j i k' l) ∙ sym (by_gt k')
      | no k' ↦ let e : i ≡ j = omega arith in subst (λ (x : ℕ). standing object records i x ≡ by_number i x) e (order_self _ _ ∙ sym (by-eq {x = i} refl))
    ]
  ]

  module _ (name : List ℕ) (folder : Bool) where
    abbrev how : ℕ → Met
    how = compare_at h object records name folder

    abbrev against : ℕ → Ordering
    against i = name_order (name_of object (nth records i)) (folder_of (nth records i)) name folder

    -- every record compares
    compares : (i : ℕ) → i < length records → how i ≡ met (against i)
    compares i l = met-good h object name folder (nth records i) (g.good i l)

    found-stands : free_of 47 name ≡ true → (i : ℕ) → i < length records → how i ≡ met Equal → Stands object records name folder i
    found-stands free i l e =
        let s = order_same _ _ _ _ (g.slashless i l) free (met-is (compares i l) e) in
        record { inside = l; named = s.0; sort = s.1 }

    module _ (allowed : Allowed h object records name) where
      abbrev answer : Looked
      answer = lookup_in h object records name folder

      abbrev searched : answer ≡ search_from how 0 (length records) 0
      searched = lookup_open h object records name folder allowed

      ended : Ends how (length records) answer
      ended = rw searched (by_turns how _ (ends how (length records) against compares) 0 (length records) 0 (omega arith))

      -- the answer is 0 or 15, never 10
      pub lookup-answers : ((i : ℕ) × (c : ℕ) × (lookup_in h object records name folder ≡ found i c))
          ⊎ ((c : ℕ) × (lookup_in h object records name folder ≡ absent c))
      lookup-answers = ⊎_elim (λ w. inl (w.0, w.1, w.2)) (λ w. inr w) ended

      -- what is there is found, and found where it is
      pub there-found : (i : ℕ) → Stands object records name folder i → (c : ℕ) × (lookup_in h object records name folder ≡ found i c)
      there-found p s =
          let r = by_turns how _ (finds how (length records) p places) 0 (length records) 0 (omega arith) (omega arith) s.inside in
          (r.0, searched ∙ r.1)
        where
          places : (i : ℕ) → i < length records → how i ≡ met (by_number i p)
          places i l = let a = s.named in let b = s.sort in compares i l ∙ ap met (let e = standing-is i p l s.inside in cc)

      module _ (free : free_of 47 name ≡ true) where
        found-there : (i c : ℕ) → answer ≡ found i c → Stands object records name folder i
        found-there i c e =
            ⊎_elim
            (λ w.
            let q : w.0 ≡ i = ap (λ (r : Looked). r.index) (sym w.2 ∙ e) in
            found-stands free i (omega (arith, w.3)) (ap how (sym q) ∙ w.4))
            (λ w. absurd (omega (arith, ap (λ (r : Looked). r.verdict.number) (sym e ∙ w.1))))
            ended

        -- index i is answered exactly where record i is there
        pub lookup-finds : (i : ℕ) → ((c : ℕ) × (lookup_in h object records name folder ≡ found i c)) ↔ Stands object records name folder i
        lookup-finds i = ((λ w. found-there i w.0 w.1), there-found i)

        -- 15 is answered exactly where no record is there
        pub lookup-misses : ((c : ℕ) × (lookup_in h object records name folder ≡ absent c)) ↔ ((i : ℕ) → Stands object records name folder i → ⊥)
        lookup-misses = (
          (λ w i s. omega (arith, ap (λ (r : Looked). r.verdict.number) (sym w.1 ∙ (there-found i s).1))),
          (λ none. ⊎_elim (λ w. absurd (none w.0 (found-there w.0 w.1 w.2))) (λ w. w) lookup-answers),
        )

  -- ---- what a slash does

  shorter : (name rest : List ℕ) → Allowed h object records (name ++ (47 ∷ rest)) → Allowed h object records name
  shorter name rest allowed =
      let b = gate_open h _ (length records) allowed in
      gate_fine h _ (length records) b.0 (omega (arith, b.1, length-append name (47 ∷ rest))) b.2

  -- a name with a slash is answered as the tree before the slash: the lookup cannot be trusted with it
  pub lookup-slash : (name rest : List ℕ) (folder : Bool) → Allowed h object records (name ++ (47 ∷ rest))
      → lookup_in h object records (name ++ (47 ∷ rest)) folder ≡ lookup_in h object records name true
  lookup-slash name rest folder allowed =
      lookup_open h object records (name ++ (47 ∷ rest)) folder allowed
      ∙ by_turns tree _ (alike tree slash (length records) agree) 0 (length records) 0 (omega arith)
      ∙ sym (lookup_open h object records name true (shorter name rest allowed))
    where
      tree : ℕ → Met
      tree = compare_at h object records name true

      slash : ℕ → Met
      slash = compare_at h object records (name ++ (47 ∷ rest)) folder

      agree : (i : ℕ) → i < length records → tree i ≡ slash i
      agree i l =
          compares name true i l
          ∙ ap met (sym (order_slash _ _ name rest folder (g.slashless i l)))
          ∙ sym (compares (name ++ (47 ∷ rest)) folder i l)

  -- where tree a is there, the lookup of a/b answers it
  pub slash-finds-tree : (name rest : List ℕ) (folder : Bool) → Allowed h object records (name ++ (47 ∷ rest)) → (i : ℕ) → Stands object records name true i
      → (c : ℕ) × (lookup_in h object records (name ++ (47 ∷ rest)) folder ≡ found i c)
  slash-finds-tree name rest folder allowed i s =
      let r = there-found name true (shorter name rest allowed) i s in
      (r.0, lookup-slash name rest folder allowed ∙ r.1)
