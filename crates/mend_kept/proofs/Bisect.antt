-- Bisection in a sorted list, and whether a smaller element of the same key stands in it. Assumes nothing.
use Prim.Native.Nat.{ℕ, zero, suc, ◌-◌, ◌/◌, ◌<◌, ◌≤◌}
use native.Mathlib.Decide.{dec_lt}
use native.Mathlib.Omega.{arith}
use mathlib.Core.Path.{◌≡◌, refl, ap, sym, ◌∙◌}
use mathlib.Core.Bool.{Bool, true, false, false≢true, ◌&&◌, ◌||◌}
use mathlib.Core.List.{List, [], ◌∷◌}
use lib.Dec.{ltb}
use Rattle.std.specs.List.Sorted.{IsPartitionPoint, IsPartitionedBy}
use lib.ListN.{length, get_or, take, drop}
use borrow.Author.Tests.{lt-ltb, ltb-true}
use Rattle.ground.specs.Scan.{same_bytes}
use Rattle.ground.proofs.Laws.{and_left, and_right, same_test, same_true, same_refl}
use Rattle.order.specs.Order.{name_order}
use Rattle.order.proofs.Laws.{order_self}
use Rattle.entry.specs.Record.{name_of}
use Rattle.entry.specs.Decode.{decode}
use Rattle.entry.specs.declared.EntryRecord.{EntryRecord}
use Rattle.entry.specs.declared.Cursor.{Cursor}
use Rattle.ground.specs.declared.Verdict.{Verdict}
use Rattle.keys.specs.Key.{decide, key_at, below_by}
use Rattle.keys.specs.Strict.{Strict}
use Rattle.keys.proofs.Keys.{key_strict}
use Rattle.sorting.specs.Sort.{Ascends}
use Rattle.sorting.proofs.Sorted.{ascends_pair, up-below, up-then-below}
use Rattle.sorting.proofs.Repeats.{same-below, between}
use Rattle.mend_kept.specs.Code.{Lowest, Known, has_name, earlier}
use Rattle.std.specs.Prelude.{Err, Ok, Result}
use Rattle.std.specs.declared.cmp.Ordering.{Ordering}
use Rattle.std.specs.declared.cmp.Ordering.TheVariants.{Equal}

-- ---- the search

module _ (below : ℕ → ℕ → Bool) (l : List ℕ) (x : ℕ) where
  -- what is below x stands before what is not
  pub parted : Strict below → Ascends below l → IsPartitionedBy (λ y. below y x) l
  parted strict up i j d p q t = up-then-below below strict (get_or l i d) (get_or l j d) x (ascends_pair below strict d l up i j p q) t

  pub lowest : (r : ℕ) → r ≤ length l → IsPartitionPoint (λ y. below y x ≡ true) (λ y. below y x ≡ false) l r → Lowest below l x r
  lowest r p w = record { inside = p; under = λ j q. w.0 j 0 (omega arith) q; over = λ j q k. w.1 j 0 q k }

-- ---- a smaller element of the same key

or-true : (a b : Bool) → a ≡ true → (a || b) ≡ true
or-true a b p = rw p refl

or_right : (a b : Bool) → b ≡ true → (a || b) ≡ true
or_right true b p = refl
or_right false b p = p

module _ (key : ℕ → List ℕ) (x : ℕ) where
  pub earlier-here : (l : List ℕ) (i : ℕ) → i < length l → key (get_or l i 0) ≡ key x → get_or l i 0 < x → earlier key l x ≡ true
  unfolding earlier
  earlier-here [] i p e q = absurd (omega arith)
  earlier-here (y ∷ l) zero p e q =
      let t : (same_bytes (key y) (key x) && ltb y x) ≡ true = rw (e, same_refl (key x)) (lt-ltb y x q) in
      or-true (same_bytes (key y) (key x) && ltb y x) (earlier key l x) t
  earlier-here (y ∷ l) (suc i) p e q = or_right (same_bytes (key y) (key x) && ltb y x) (earlier key l x) (earlier-here l i (omega arith) e q)

  pub earlier_find : (l : List ℕ) → earlier key l x ≡ true → (i : ℕ) × (i < length l) × (key (get_or l i 0) ≡ key x) × (get_or l i 0 < x)
  unfolding earlier
  earlier_find [] e = absurd (false≢true e)
  earlier_find (y ∷ l) e = go (λ q. earlier_find l q) (same_bytes (key y) (key x) && ltb y x) refl e
    where
      go : (earlier key l x ≡ true → (i : ℕ) × (i < length l) × (key (get_or l i 0) ≡ key x) × (get_or l i 0 < x)) → (b : Bool)
          → (same_bytes (key y) (key x) && ltb y x) ≡ b → (b || earlier key l x) ≡ true
          → (i : ℕ) × (i < suc (length l)) × (key (get_or (y ∷ l) i 0) ≡ key x) × (get_or (y ∷ l) i 0 < x)
      go ih true q e = (0, omega arith, same_true (key y) (key x) (and_left (same_bytes (key y) (key x)) _ q), ltb-true y x (and_right (same_bytes (key y) (key x)) _ q))
      go ih false q e = let w = ih e in (suc w.0, omega (arith, w.1), w.2, w.3)

  -- of one key, what is below is smaller
  below_less : (y : ℕ) → key y ≡ key x → below_by key y x ≡ true → y < x
  unfolding below_by
  below_less y e b =
      let z : name_order (key y) false (key x) false ≡ Equal = rw e (order_self (key x) false) in
      ltb-true y x (ap (λ (o : Ordering). decide o (ltb y x)) (sym z) ∙ b)

  module _ (l : List ℕ) (up : Ascends (below_by key) l) where
    pub earlier-none : Lowest (below_by key) l x 0 → false ≡ earlier key l x
    earlier-none g = go (earlier key l x) refl
      where
        go : (b : Bool) → earlier key l x ≡ b → false ≡ b
        go false e = refl
        go true e =
            let w = earlier_find l e in
            absurd (false≢true (sym (g.over w.0 (omega arith) w.1) ∙ same-below key (get_or l w.0 0) x w.2 w.3))

    pub earlier-last : (k : ℕ) → Lowest (below_by key) l x (suc k) → same_bytes (key (get_or l k 0)) (key x) ≡ earlier key l x
    earlier-last k g = same_test _ _ there back
      where
        there : same_bytes (key (get_or l k 0)) (key x) ≡ true → earlier key l x ≡ true
        there t =
            let e = same_true (key (get_or l k 0)) (key x) t in
            earlier-here l k (omega (arith, g.inside)) e (below_less (get_or l k 0) e (g.under k (omega arith)))

        at : (i : ℕ) → i < length l → key (get_or l i 0) ≡ key x → below_by key (get_or l i 0) x ≡ true → same_bytes (key (get_or l k 0)) (key x) ≡ true
        at i p e b =
            elim (dec_lt k i) [
              | yes q ↦ absurd (false≢true (sym (g.over i (omega arith) p) ∙ b))
              | no q ↦
                  let f = between key (get_or l i 0) (get_or l k 0) x
                  (ascends_pair (below_by key) (key_strict key) 0 l up i k (omega arith) (omega (arith, g.inside)))
                  (up-below (below_by key) (key_strict key) (get_or l k 0) x (g.under k (omega arith))) e in
                  rw f (same_refl (key x))
            ]

        back : earlier key l x ≡ true → same_bytes (key (get_or l k 0)) (key x) ≡ true
        back t = let w = earlier_find l t in at w.0 w.1 w.2 (same-below key (get_or l w.0 0) x w.2 w.3)

-- the same by the name of the entry before
pub repeated-last : (h : ℕ) (s list name : List ℕ) (x k : ℕ) → Known h s list → key_at s 32 0 x ≡ name → Lowest (below_by (key_at s 32 0)) list x (suc k)
    → has_name s name (decode h (get_or list k 0 / 2) (drop (get_or list k 0 / 2) s)) ≡ earlier (key_at s 32 0) list x
unfolding has_name
repeated-last h s list name x k known e g =
    let w = known.whole k (omega (arith, g.inside)) in
    let a : has_name s name (decode h (get_or list k 0 / 2) (drop (get_or list k 0 / 2) s)) ≡ same_bytes (name_of s w.0) name = ap (has_name s name) w.2 in
    a ∙ rw (← w.3, ← e) (earlier-last (key_at s 32 0) x list known.up k g)

-- whether an entry that was decoded has a name
pub has-broken : (s name : List ℕ) (d : Result (EntryRecord × Cursor) Verdict) (v : Verdict) → d ≡ Err v → false ≡ has_name s name d
unfolding has_name
has-broken s name d v q = sym (ap (has_name s name) q)

pub has-whole : (s name : List ℕ) (d : Result (EntryRecord × Cursor) Verdict) (e : EntryRecord) (next : Cursor) → d ≡ Ok (e, next)
    → same_bytes (take (e.name_end - e.name_start) (drop e.name_start s)) name ≡ has_name s name d
unfolding has_name name_of
has-whole s name d e next q = sym (ap (has_name s name) q)

-- how many stand below says whether a smaller element has the name
pub repeated-none : (h : ℕ) (s list : List ℕ) (x k : ℕ) → Known h s list → Lowest (below_by (key_at s 32 0)) list x k → k ≡ 0
    → false ≡ earlier (key_at s 32 0) list x
repeated-none h s list x k known g z = earlier-none (key_at s 32 0) x list known.up (rw z at g)

pub repeated-some : (h : ℕ) (s list name : List ℕ) (x k : ℕ) → Known h s list → key_at s 32 0 x ≡ name → Lowest (below_by (key_at s 32 0)) list x k
    → (k ≡ 0 → ⊥) → has_name s name (decode h (get_or list (k - 1) 0 / 2) (drop (get_or list (k - 1) 0 / 2) s)) ≡ earlier (key_at s 32 0) list x
repeated-some h s list name x zero known e g n = absurd (n refl)
repeated-some h s list name x (suc k) known e g n = let z : suc k - 1 ≡ k = omega arith in rw z (repeated-last h s list name x k known e g)
