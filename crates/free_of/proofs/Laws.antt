-- Laws of a byte that does not stand among others: by the parts of them that are looked at. Assumes nothing.
use Prim.Native.Nat.{ℕ, ◌+◌, ◌≤◌}
use mathlib.Core.Path.{◌≡◌, refl, sym, ◌∙◌}
use mathlib.Core.Bool.{true, false, ◌&&◌, false≢true}
use mathlib.Core.List.{List}
use native.Mathlib.Omega.{arith}
use lib.ListN.{length, take, drop}
use Rattle.ground.specs.Scan.{count_to, free_of}
use Rattle.ground.proofs.Laws.{and_left, and_right, is_false, same_test, count-le, count-take, free_whole, whole_free}
use Rattle.scan.proofs.Laws.{count-over}
use Rattle.scan.proofs.Word.{part_length}

module _ (x : ℕ) (s : List ℕ) (at : ℕ) where
  -- nothing before a place is x, nor is any of k bytes from there on
  pub free_on : (k : ℕ) → at ≤ count_to x s → at + k ≤ length s → free_of x (take k (drop at s)) ≡ true → at + k ≤ count_to x s
  free_on k h m e =
      omega (arith, count-over x at s h, whole_free x (take k (drop at s)) e, count-take x k (drop at s), part_length s at k m)

  -- where no byte is x, looking at k of them meets none
  pub free_part : (k : ℕ) → at + k ≤ length s → free_of x s ≡ true → free_of x (take k (drop at s)) ≡ true
  free_part k m e =
      free_whole x (take k (drop at s))
      (omega (arith, whole_free x s e, count-over x at s (omega (arith, whole_free x s e)), count-take x k (drop at s), part_length s at k m))

-- one of k bytes is
pub free_not : (x : ℕ) (s : List ℕ) (at k : ℕ) → at + k ≤ length s → free_of x (take k (drop at s)) ≡ false → false ≡ free_of x s
free_not x s at k m e = sym (is_false (free_of x s) (λ v. false≢true (sym e ∙ free_part x s at k m v)))

-- nothing before a place is x: the last bytes decide, which begin there or before
pub free_last : (x : ℕ) (s : List ℕ) (at last k : ℕ) → at ≤ count_to x s → last ≤ at → last + k ≡ length s → free_of x (take k (drop last s)) ≡ free_of x s
free_last x s at last k h l e =
    same_test (free_of x (take k (drop last s))) (free_of x s)
    (λ v. free_whole x s (omega (arith, count-le x s, free_on x s last k (omega arith) (omega arith) v)))
    (free_part x s last k (omega arith))

-- by the first bytes and the last, which leave none out
pub free_both : (x : ℕ) (s : List ℕ) (k last j : ℕ) → k ≤ length s → last ≤ k → last + j ≡ length s
    → (free_of x (take k s) && free_of x (take j (drop last s))) ≡ free_of x s
free_both x s k last j m l e =
    same_test (free_of x (take k s) && free_of x (take j (drop last s))) (free_of x s)
    (λ v.
    let start = free_on x s 0 k (omega arith) (omega arith) (and_left (free_of x (take k s)) (free_of x (take j (drop last s))) v) in
    sym (free_last x s k last j (omega (arith, start)) l e) ∙ and_right (free_of x (take k s)) (free_of x (take j (drop last s))) v)
    (λ v. rw (free_part x s 0 k (omega arith) v, free_part x s last j (omega arith) v) refl)
