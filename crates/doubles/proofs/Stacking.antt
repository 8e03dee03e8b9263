-- Laws of the array of open names: each way through a step on it. Assumes nothing.
use Prim.Native.Nat.{ℕ, zero, suc, ◌+◌, ◌-◌, ◌%◌, ◌≤◌, ◌<◌, min}
use native.Mathlib.Decide.{dec_lt}
use native.Mathlib.Omega.{arith}
use mathlib.Core.Path.{◌≡◌, refl, sym, ap}
use mathlib.Core.Bool.{Bool, true, false, ◌||◌}
use mathlib.Core.List.{List, ◌∷◌}
use lib.ListN.{length, get_or, set, length-set}
use lib.Dec.{eqb, ltb}
use lib.Seq.{set_out}
use borrow.Author.Tests.{lt-ltb, le-ltb, ltb-true}
use Rattle.ground.specs.Basics.{pick}
use Rattle.ground.specs.Scan.{common_start}
use Rattle.order.specs.Order.{name_order}
use Rattle.doubles.specs.Doubles.{shut, top_is}
use Rattle.doubles.specs.Stack.{stack_of, kept_of, open_at, marks_at, is_double, open_of, if_below, place_of, marks_of}
use Rattle.doubles.specs.declared.Misplaced.{Misplaced}
use Rattle.doubles.specs.declared.Misplaced.TheVariants.{Double, NotAfter}
use Rattle.std.specs.Prelude.{Err, Ok, Result}
use Rattle.std.specs.declared.cmp.Ordering.{Ordering}
use Rattle.std.specs.declared.cmp.Ordering.TheVariants.{Equal, Greater, Less}

-- ---- how many stay

module _ (a : List ℕ) (p : ℕ) where
  pub kept-stays : (k : ℕ) → 0 < k → get_or a (k - 1) 0 ≤ p → kept_of a p k ≡ k
  unfolding kept_of
  kept-stays zero z h = absurd (omega arith)
  kept-stays (suc k) z h =
      let e : suc k - 1 ≡ k = omega arith in
      let g : get_or a k 0 ≤ p = rw e at h in
      rw (le-ltb p (get_or a k 0) g)

  pub kept_goes : (k : ℕ) → 0 < k → p < get_or a (k - 1) 0 → kept_of a p k ≡ kept_of a p (k - 1)
  unfolding kept_of
  kept_goes zero z h = absurd (omega arith)
  kept_goes (suc k) z h =
      let e : suc k - 1 ≡ k = omega arith in
      let g : p < get_or a k 0 = rw e at h in
      rw (e, lt-ltb p (get_or a k 0) g)

  pub kept-none : (k : ℕ) → k ≤ 0 → kept_of a p k ≡ k
  unfolding kept_of
  kept-none zero z = refl
  kept-none (suc k) z = absurd (omega arith)

  pub kept-le : (n : ℕ) → kept_of a p n ≤ n
  unfolding kept_of
  kept-le zero = omega arith
  kept-le (suc n) =
      elim (dec_lt p (get_or a n 0)) [
        | yes h ↦ rw (lt-ltb p (get_or a n 0) h) (omega (arith, kept-le n))
        | no h ↦ let g : get_or a n 0 ≤ p = omega arith in rw (le-ltb p (get_or a n 0) g) (omega arith)
      ]

  -- the array's step is the list's
  pub kept-shut : (n : ℕ) → stack_of a (kept_of a p n) ≡ shut p (stack_of a n)
  unfolding kept_of stack_of shut
  kept-shut zero = refl
  kept-shut (suc n) =
      elim (dec_lt p (get_or a n 0)) [
        | yes h ↦ rw (lt-ltb p (get_or a n 0) h) (kept-shut n)
        | no h ↦ let g : get_or a n 0 ≤ p = omega arith in rw (le-ltb p (get_or a n 0) g)
      ]

-- ---- the marks at the next name

-- what a step answers, and the marks after it
abbrev pub Did : List ℕ → ℕ → ℕ → ℕ → Bool → ℕ → List ℕ → Type 0
Did a n p len was r b = (r ≡ open_at a n p len was) × (b ≡ marks_at a n p len was)

or-true : (b : Bool) → (b || true) ≡ true
or-true true = refl
or-true false = refl

module _ (a : List ℕ) (n p len : ℕ) (was : Bool) where
  shuts : (was || ltb p len) ≡ true → {r : ℕ} → r ≡ kept_of a p n → Did a n p len was r a
  unfolding open_at marks_at
  shuts t e = (rw t e, rw t)

  pub did_folder : was ≡ true → {r : ℕ} → r ≡ kept_of a p n → Did a n p len was r a
  did_folder w = shuts (rw w)

  pub did_less : p < len → {r : ℕ} → r ≡ kept_of a p n → Did a n p len was r a
  did_less h = shuts (rw (lt-ltb p len h) (or-true was))

  module _ (w : was ≡ false) (h : len ≤ p) where
    pub did_full : length a ≤ n → Did a n p len was n a
    unfolding open_at marks_at
    did_full f = (rw (w, le-ltb p len h, le-ltb n (length a) f), rw (w, le-ltb p len h) (sym (set_out a n (len % 4294967296) f)))

    pub did_open : n < length a → Did a n p len was (n + 1) (set a n (len % 4294967296))
    unfolding open_at marks_at
    did_open f = (rw (w, le-ltb p len h, lt-ltb n (length a) f), rw (w, le-ltb p len h))

  -- no more than there are places
  pub open-within : n ≤ length a → open_at a n p len was ≤ length (marks_at a n p len was)
  unfolding open_at marks_at
  open-within f = go (was || ltb p len)
    where
      go : (v : Bool) → pick v (kept_of a p n) (pick (ltb n (length a)) (n + 1) n) ≤ length (pick v a (set a n (len % 4294967296)))
      go true = omega (arith, kept-le a p n)
      go false = rw (length-set a n (len % 4294967296)) (more (ltb n (length a)) refl)
        where
          more : (v : Bool) → ltb n (length a) ≡ v → pick v (n + 1) n ≤ length a
          more true q = omega (arith, ltb-true n (length a) q)
          more false q = f

-- ---- a folder of an open name

module _ (a : List ℕ) (k len : ℕ) (folder : Bool) where
  pub double_file : folder ≡ false → is_double a k len folder ≡ false
  unfolding is_double
  double_file f = rw f

  module _ (f : folder ≡ true) where
    pub double_none : k ≡ 0 → is_double a k len folder ≡ false
    unfolding is_double stack_of top_is
    double_none e = rw (f, e)

    pub double_top : 0 < k → is_double a k len folder ≡ eqb (get_or a (k - 1) 0) len
    unfolding is_double stack_of top_is
    double_top z =
        let q : k ≡ suc (k - 1) = omega arith in
        let s : stack_of a k ≡ get_or a (k - 1) 0 ∷ stack_of a (k - 1) = ap (stack_of a) q in
        rw (f, s)

-- ---- an entry after one of whose name so much is shared

-- what is answered, and the marks afterwards
abbrev pub Opened : List ℕ → ℕ → ℕ → ℕ → Bool → ℕ → Bool → Result ℕ Misplaced → List ℕ → Type 0
Opened a n p len was size folder r b = (r ≡ open_of a n p len was size folder) × (b ≡ marks_at a (min n (length a)) p len was)

module _ (a : List ℕ) (n p len : ℕ) (was : Bool) (size : ℕ) (folder : Bool) (m k : ℕ) (b : List ℕ) (e : m ≡ min n (length a)) (d : Did a m p len was k b) where
  pub opened_double : is_double b k size folder ≡ true → Opened a n p len was size folder (Err Double) b
  unfolding open_of
  opened_double q = (rw (← e, ← d.0, ← d.1, q), rw (← e) d.1)

  pub opened-fine : is_double b k size folder ≡ false → Opened a n p len was size folder (Ok k) b
  unfolding open_of
  opened-fine q = (rw (← e, ← d.0, ← d.1, q), rw (← e) d.1)

-- ---- an entry after one whose name is at hand

-- what is answered, and the marks afterwards
abbrev pub Went : List ℕ → ℕ → List ℕ → Bool → List ℕ → Bool → Result ℕ Misplaced → List ℕ → Type 0
Went a n last was name folder r b = (r ≡ place_of a n last was name folder) × (b ≡ marks_of a n last was name folder)

module _ (a : List ℕ) (n : ℕ) (last : List ℕ) (was : Bool) (name : List ℕ) (folder : Bool) where
  pub went_same : name_order last was name folder ≡ Equal → Went a n last was name folder (Err NotAfter) a
  unfolding place_of marks_of
  went_same o = (rw o, rw o)

  pub went_above : name_order last was name folder ≡ Greater → Went a n last was name folder (Err NotAfter) a
  unfolding place_of marks_of
  went_above o = (rw o, rw o)

  -- the marks are as many as they were
  pub marks-length : length (marks_of a n last was name folder) ≡ length a
  unfolding marks_of marks_at
  marks-length = go (name_order last was name folder) (was || ltb (common_start last name) (length last))
    where
      go : (o : Ordering) (v : Bool) → length (if_below o (pick v a (set a (min n (length a)) (length last % 4294967296))) a) ≡ length a
      go Less true = refl
      go Less false = length-set a (min n (length a)) (length last % 4294967296)
      go Equal v = refl
      go Greater v = refl

  pub went_below : name_order last was name folder ≡ Less → (p : ℕ) {r : Result ℕ Misplaced} {b : List ℕ} → p ≡ common_start last name
      → Opened a n p (length last) was (length name) folder r b → Went a n last was name folder r b
  unfolding place_of marks_of open_of
  went_below o p e d = (rw (o, ← e) d.0, rw (o, ← e) d.1)
