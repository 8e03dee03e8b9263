-- Laws of a bundle that is opened. Assumes nothing.
use Prim.Native.Nat.{ℕ, ◌≤◌}
use native.Mathlib.Omega.{arith}
use mathlib.Core.Path.{◌≡◌, refl, sym, ap, ◌∙◌}
use mathlib.Core.Bool.{true, false}
use mathlib.Core.List.{List}
use lib.ListN.{length}
use borrow.Author.Tests.{eq-eqb, ne_eqb}
use Rattle.ground.specs.Verdict.{verdict, fine, most_bytes, size_gate}
use Rattle.ground.specs.declared.Verdict.{Verdict}
use Rattle.ground.proofs.Laws.{size-fine}
use Rattle.frame.specs.Frame.{head_of, frames_by, whole}
use Rattle.frame.specs.declared.Header.{Header}
use Rattle.twice.specs.Ids.{ids_in, repeats}
use Rattle.bundle.specs.Bundle.{open_by, open_from, open_of, own_length, told, check_of}
use Rattle.bundle.specs.declared.Checked.{Checked}
use Rattle.std.specs.Prelude.{Err, None, Ok, Option, Result, Some, ⊤}

module _ (s : List ℕ) (n : ℕ) (d : Option Header) (k : Header) (e : d ≡ Some k) where
  pub open_other : (n ≡ k.h → ⊥) → open_by s n d ≡ Err (verdict 24 0)
  unfolding open_by
  open_other q = rw e (rw (ne_eqb n k.h q))

  module _ (q : n ≡ k.h) where
    pub open_fault : whole (frames_by s k) ≡ false → open_by s n d ≡ Err (verdict 24 0)
    unfolding open_by
    open_fault w = rw e (rw (eq-eqb n k.h q, w))

    module _ (w : whole (frames_by s k) ≡ true) where
      pub open_twice : repeats (ids_in k.h s (frames_by s k)) ≡ true → open_by s n d ≡ Err (verdict 25 0)
      unfolding open_by
      open_twice r = rw e (rw (eq-eqb n k.h q, w, r))

      pub open_fine : repeats (ids_in k.h s (frames_by s k)) ≡ false → open_by s n d ≡ Ok k
      unfolding open_by
      open_fine r = rw e (rw (eq-eqb n k.h q, w, r))

pub open_bad : (s : List ℕ) (n : ℕ) (d : Option Header) → d ≡ None → open_by s n d ≡ Err (verdict 24 0)
unfolding open_by
open_bad s n d e = rw e

-- ---- the bound

module _ (s : List ℕ) (n : ℕ) (g : Result ⊤ Verdict) (e : g ≡ size_gate (length s) 0) where
  pub open_over : (v : Verdict) → g ≡ Err v → open_of s n ≡ Err v
  unfolding open_from
  open_over v q = ap (open_from s n) (sym e ∙ q)

  pub open_in : g ≡ Ok tt → open_of s n ≡ open_by s n (head_of s)
  unfolding open_from
  open_in q = ap (open_from s n) (sym e ∙ q)

-- within the bound nothing but the bundle is looked at
pub open-within : (s : List ℕ) (n : ℕ) → length s ≤ most_bytes → open_of s n ≡ open_by s n (head_of s)
open-within s n p = open_in s n (size_gate (length s) 0) refl (size-fine (length s) 0 p (omega arith))

-- ---- a bundle that is checked

pub told-shut : (o : Result Header Verdict) (v : Verdict) → o ≡ Err v → told o ≡ record { verdict = v; h = 0; rules = 0; count = 0 }
unfolding told
told-shut o v e = rw e

pub told_open : (o : Result Header Verdict) (k : Header) → o ≡ Ok k → told o ≡ record { verdict = fine; h = k.h; rules = k.rules; count = k.count }
unfolding told
told_open o k e = rw e

pub check_is : (s : List ℕ) (d : Option Header) (n : ℕ) (o : Result Header Verdict) (r : Checked) → head_of s ≡ d → n ≡ own_length d → o ≡ open_of s n → r ≡ told o → r ≡ check_of s
check_is s d n o r e p q w = w ∙ ap told (q ∙ ap (open_of s) (p ∙ ap own_length (sym e)))
