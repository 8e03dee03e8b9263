-- What is known of a bundle that was opened for two roots, and of one that was not. Assumes nothing.
use Prim.Native.Nat.{ℕ, ◌≤◌, ◌<◌}
use mathlib.Core.Bool.{Bool, true, false, ◌&&◌}
use mathlib.Core.Path.{◌≡◌, refl, sym, subst, ◌∙◌}
use mathlib.Core.List.{List, []}
use native.Mathlib.Omega.{arith}
use borrow.Author.Tests.{eq-eqb, ne_eqb}
use lib.Dec.{eqb, leb}
use lib.ListN.{length}
use Rattle.ground.specs.Basics.{pick}
use Rattle.ground.specs.Verdict.{verdict, size_gate, most_bytes, most_records}
use Rattle.ground.specs.declared.Verdict.{Verdict}
use Rattle.frame.specs.Frame.{head_of, frames_by, whole}
use Rattle.frame.specs.declared.Header.{Header}
use Rattle.twice.specs.Ids.{ids_in, repeats}
use Rattle.bundle.specs.Bundle.{open_by, open_from, open_of}
use Rattle.twice.proofs.Laws.{head_few}
use Rattle.seeking.specs.Index.{IsIndex}
use Rattle.difference.specs.Whole.{roots_of}
use Rattle.std.specs.Prelude.{Err, None, Ok, Option, Result, Some}

-- roots of two lengths
pub roots_other : (s : List ℕ) (a b : ℕ) → (a ≡ b → ⊥) → Err (verdict 24 0) ≡ roots_of s a b
unfolding roots_of
roots_other s a b h = rw (ne_eqb _ _ h)

pub roots_open : (s : List ℕ) (a b : ℕ) (o : Result Header Verdict) → (a ≡ b) → o ≡ open_of s a → o ≡ roots_of s a b
unfolding roots_of
roots_open s a b o h e = e ∙ rw (eq-eqb _ _ h)

-- what is said of an opening, whichever it is
abbrev Said : List ℕ → Result Header Verdict → Type 0
Said s (Err v) = v.number ≡ 0 → ⊥
Said s (Ok k) = (head_of s ≡ Some k) × (repeats (ids_in k.h s (frames_by s k)) ≡ false)

by_said : (s : List ℕ) (n : ℕ) (d : Option Header) → head_of s ≡ d → Said s (open_by s n d)
unfolding open_by
by_said s n None e = λ q. omega arith
by_said s n (Some k) e = go (eqb n k.h) (whole (frames_by s k)) (repeats (ids_in k.h s (frames_by s k))) refl
  where
    go : (t u w : Bool) → repeats (ids_in k.h s (frames_by s k)) ≡ w
        → Said s (pick t (pick u (pick w (Err (verdict 25 0)) (Ok k)) (Err (verdict 24 0))) (Err (verdict 24 0)))
    go true true true q = λ z. omega arith
    go true true false q = (e, q)
    go true false w q = λ z. omega arith
    go false u w q = λ z. omega arith

said : (s : List ℕ) (a b : ℕ) → Said s (roots_of s a b)
unfolding roots_of open_from size_gate
said s a b = roots (eqb a b) (leb (length s) most_bytes && leb 0 most_records)
  where
    gated : (t : Bool) → Said s (open_from s a (pick t (Ok tt) (Err (verdict 2 0))))
    gated true = by_said s a (head_of s) refl
    gated false = λ z. omega arith

    roots : (t u : Bool) → Said s (pick t (open_from s a (pick u (Ok tt) (Err (verdict 2 0)))) (Err (verdict 24 0)))
    roots true u = gated u
    roots false u = λ z. omega arith

module _ (s : List ℕ) (a b : ℕ) (o : Result Header Verdict) (e : o ≡ roots_of s a b) where
  said_of : (x : Result Header Verdict) → o ≡ x → Said s x
  said_of x k = subst (λ (y : Result Header Verdict). Said s y) (sym e ∙ k) (said s a b)

  pub roots-refuse : (v : Verdict) → o ≡ Err v → v.number ≡ 0 → ⊥
  roots-refuse v k = said_of (Err v) k

  pub roots_indexed : (k : Header) → o ≡ Ok k → IsIndex s k []
  roots_indexed k q =
      let f = said_of (Ok k) q in
      record { head = f.0; once = f.1; places = λ i l. absurd (omega arith) }

  pub roots_few : (k : Header) → o ≡ Ok k → k.count ≤ most_records
  roots_few k q = head_few s k (roots_indexed k q).head

-- a bundle with more objects than there may be is not opened
pub never : (n : ℕ) → most_records < n → n ≤ most_records → ⊥
never n p q = omega arith
