-- Laws of the lengths that the first pass keeps. Assumes nothing.
use Prim.Native.Nat.{ℕ, ◌+◌, ◌-◌, ◌%◌, ◌<◌, ◌≤◌}
use mathlib.Core.Path.{◌≡◌, refl, sym}
use mathlib.Core.Bool.{Bool, true, false}
use mathlib.Core.List.{List}
use mathlib.Core.Logic.{⊎_elim}
use native.Mathlib.Decide.{dec_le}
use native.Mathlib.Numerals.{add-one}
use native.Mathlib.Omega.{arith}
use lib.ListN.{length, get_or, set, replicate, get_or-replicate, get_or-eq_default, length-replicate}
use lib.Seq.{get_or-set_same, get_or-set_other, set_out}
use lib.Dec.{ltb}
use borrow.Author.Tests.{lt-ltb, le-ltb}
use Rattle.ground.specs.Basics.{pick}
use Rattle.ground.specs.Scan.{place_from}
use Rattle.ground.proofs.Laws.{equal, place-from}
use Rattle.mode_code.specs.Code.{code_at}
use Rattle.reading.specs.Lengths.{name_at, place_of, Known, Lengths, remembered}

-- how long a list of n zeros is, n a variable, so that no proof computes a long one
pub zeros-many : (n : ℕ) → n ≡ length (replicate {A = ℕ} n 0)
zeros-many n = sym (length-replicate n 0)

-- a list of zeros keeps none
zeros : (k n : ℕ) → get_or (replicate {A = ℕ} k 0) n 0 ≡ 0
zeros k n =
    elim (dec_le k n) [
      | yes p ↦ get_or-eq_default (replicate {A = ℕ} k 0) 0 (rw (length-replicate {A = ℕ} k 0) p)
      | no p ↦ get_or-replicate k n 0 0 (omega arith)
    ]

pub none_kept : (k h : ℕ) (s : List ℕ) → Lengths h s (replicate k 0)
none_kept k h s n some = absurd (some (zeros k n))

-- where the next entry begins
pub place_after : (h : ℕ) (s : List ℕ) (n at code end : ℕ) → at ≡ place_of h s n → code ≡ code_at s at → end ≡ place_from 0 s (at + code % 16)
    → end + 1 + h ≡ place_of h s (n + 1)
unfolding place_of
place_after h s n at code end p c q = rw (add-one n, ← p, ← c, ← q)

-- nothing is kept of a length that is no byte's, or of an entry past the room
pub kept-past : (lengths : List ℕ) (n len : ℕ) → length lengths ≤ n → lengths ≡ remembered lengths n len
unfolding remembered
kept-past lengths n len p = go (ltb len 256)
  where
    go : (t : Bool) → lengths ≡ pick t (set lengths n len) lengths
    go true = sym (set_out lengths n len p)
    go false = refl

pub kept-long : (lengths : List ℕ) (n len : ℕ) → 256 ≤ len → lengths ≡ remembered lengths n len
unfolding remembered
kept-long lengths n len p = simp (le-ltb len 256 p)

pub kept_here : (lengths : List ℕ) (n len : ℕ) → len < 256 → set lengths n len ≡ remembered lengths n len
unfolding remembered
kept_here lengths n len p = simp (lt-ltb len 256 p)

-- the length of entry n's name kept besides
module _ (h : ℕ) (s lengths : List ℕ) (n from end : ℕ) (p : from ≡ name_at s (place_of h s n)) (q : end ≡ place_from 0 s from) (k : Lengths h s lengths) where
  so_far : Known s from (end - from)
  so_far some = omega (arith, q, place-from 0 s from)

  stored : Lengths h s (set lengths n (end - from))
  stored m =
      ⊎_elim
      (λ (e : m ≡ n). elim (dec_le (length lengths) n) [
        | yes o ↦ rw (set_out lengths n (end - from) o) (k m)
        | no o ↦ rw (e, get_or-set_same lengths n (end - from) 0 (omega arith), ← p) so_far
      ])
      (λ (d : m ≡ n → ⊥). rw (get_or-set_other lengths n m (end - from) 0 d) (k m))
      (equal m n)

  pub keeps : Lengths h s (remembered lengths n (end - from))
  unfolding remembered
  keeps = go (ltb (end - from) 256)
    where
      go : (t : Bool) → Lengths h s (pick t (set lengths n (end - from)) lengths)
      go true = stored
      go false = k
