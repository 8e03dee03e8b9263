-- A range halved: each turn of the loop, and its end. Assumes nothing.
use Prim.Native.Nat.{ℕ, zero, suc, ◌+◌, ◌-◌, ◌<◌, ◌≤◌}
use mathlib.Core.Bool.{Bool, true, false}
use mathlib.Core.Path.{◌≡◌, refl, sym, ◌∙◌}
use native.Mathlib.Omega.{arith}
use borrow.Author.Tests.{lt-ltb, le-ltb, ltb-true}
use lib.Dec.{ltb}
use Rattle.ground.specs.Basics.{pick}
use Rattle.merge.specs.Merge.{by_order}
use Rattle.seeking.specs.Index.{middle, halve, halved}
use Rattle.std.specs.declared.cmp.Ordering.{Ordering}
use Rattle.std.specs.declared.cmp.Ordering.TheVariants.{Equal, Greater, Less}

by-order : (o : Ordering) (a a' b c c' : ℕ) → a ≡ a' → c ≡ c' → by_order o a b c ≡ by_order o a' b c'
by-order Less a a' b c c' p q = p
by-order Equal a a' b c c' p q = refl
by-order Greater a a' b c c' p q = q

halve-none : (f : ℕ → Ordering) (k low high : ℕ) → high ≤ low → halve f k low high ≡ low
unfolding halve
halve-none f zero low high p = refl
halve-none f (suc k) low high p = rw (le-ltb low high p)

-- any number of halvings that is enough gives the same
enough : (f : ℕ → Ordering) (k j low high : ℕ) → high - low ≤ k → high - low ≤ j → halve f k low high ≡ halve f j low high
unfolding halve
enough f zero j low high p q = halve-none f zero low high (omega arith) ∙ sym (halve-none f j low high (omega arith))
enough f (suc k) zero low high p q = halve-none f (suc k) low high (omega arith)
enough f (suc k) (suc j) low high p q = go (λ a b u v. enough f k j a b u v) (ltb low high) refl
  where
    m : ℕ
    m = middle low high

    go : ((a b : ℕ) → b - a ≤ k → b - a ≤ j → halve f k a b ≡ halve f j a b) → (t : Bool) → ltb low high ≡ t
        → pick t (by_order (f m) (halve f k (m + 1) high) m (halve f k low m)) low ≡ pick t (by_order (f m) (halve f j (m + 1) high) m (halve f j low m)) low
    go ih false e = refl
    go ih true e =
        let l : low < high = ltb-true low high e in
        by-order (f m) _ _ m _ _ (ih (m + 1) high (omega arith) (omega arith)) (ih low m (omega arith) (omega arith))

module _ (f : ℕ → Ordering) (low high : ℕ) where
  pub halved_end : high ≤ low → halved f low high ≡ low
  unfolding halved
  halved_end p = halve-none f (high - low) low high p

  module _ (p : low < high) where
    turn : halved f low high ≡ by_order (f (middle low high)) (halved f (middle low high + 1) high) (middle low high) (halved f low (middle low high))
    unfolding halved halve
    turn = enough f (high - low) (suc (high - low)) low high (omega arith) (omega arith) ∙ step
      where
        step : halve f (suc (high - low)) low high
            ≡ by_order (f (middle low high)) (halve f (high - (middle low high + 1)) (middle low high + 1) high) (middle low high) (halve f (middle low high - low) low (middle low high))
        step =
            rw (lt-ltb low high p)
            (by-order (f (middle low high)) _ _ (middle low high) _ _ (enough f (high - low) (high - (middle low high + 1)) (middle low high + 1) high (omega arith) (omega arith))
            (enough f (high - low) (middle low high - low) low (middle low high) (omega arith) (omega arith)))

    pub halved-below : f (middle low high) ≡ Less → halved f low high ≡ halved f (middle low high + 1) high
    halved-below e = turn ∙ rw e

    pub halved-same : f (middle low high) ≡ Equal → halved f low high ≡ middle low high
    halved-same e = turn ∙ rw e

    pub halved_above : f (middle low high) ≡ Greater → halved f low high ≡ halved f low (middle low high)
    halved_above e = turn ∙ rw e
