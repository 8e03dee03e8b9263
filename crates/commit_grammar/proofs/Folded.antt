-- The lines that fold a value: those that reading passes are lines that start with a space, and such lines are passed. Assumes nothing.
use Prim.Native.Nat.{ℕ, zero, suc, ◌+◌, ◌<◌, ◌≤◌}
use mathlib.Core.Path.{◌≡◌, refl, ap, ◌∙◌}
use mathlib.Core.Bool.{true, false, not}
use mathlib.Core.List.{List, [], ◌∷◌, ◌++◌, append_assoc}
use mathlib.Core.Logic.{◌⊎◌, inl, inr}
use native.Mathlib.Omega.{arith}
use lib.ListN.{length, get_or, drop, length-append}
use lib.Dec.{eqb}
use borrow.Author.Tests.{ne_eqb, not-true}
use Rattle.ground.specs.Basics.{part}
use Rattle.ground.specs.Scan.{place_from, free_of}
use Rattle.ground.proofs.Laws.{equal, and_left, and_right, place-from}
use Rattle.extra_header.specs.Extra.{fold_from, fold_end}
use Rattle.extra_header.proofs.Laws.{fold_end_here, fold_other, fold_open, fold_next}
use Rattle.grammar.specs.Grammar.{folded_lines, OneLines}
use Rattle.commit_grammar.proofs.Pieces.{below, cut-part, part_none, free_part, place_is}

-- bytes that are lines of this kind
pub record Folds (t : List ℕ) : Type 0 where
  pub more : List (List ℕ)
  pub whole : t ≡ folded_lines more
  pub one_lines : OneLines more

-- ---- read

no_folds : (s : List ℕ) (at e : ℕ) → e ≡ at → Folds (part at e s)
unfolding folded_lines
no_folds s at e q = record { more = []; whole = ap (λ (i : ℕ). part at i s) q ∙ part_none s at; one_lines = tt }

-- one line, and then others
one_fold : (s : List ℕ) (at lf e : ℕ) → get_or s at 0 ≡ 32 → lf ≡ place_from 10 s (at + 1) → lf < e → e ≤ length s → Folds (part (lf + 1) e s) → Folds
    (part at e s)
unfolding folded_lines
one_fold s at lf e x q p i f =
    let k = place-from 10 s (at + 1) in
    let z : part at at s ≡ [] = part_none s at in
    record {
      more = part (at + 1) lf s ∷ f.more;
      whole =
          cut-part s at at e (omega arith) (omega (arith, k)) i
          ∙ rw (z, x) (ap (λ (l : List ℕ). 32 ∷ l)
          (cut-part s (at + 1) lf e (omega (arith, k)) p i ∙ rw (place_is 10 s (at + 1) lf q (omega arith), f.whole)));
      one_lines = (free_part 10 s (at + 1) lf q, f.one_lines);
    }

-- what reading passes from a place on, or that a line has no LF and it goes back to its start
pub record Passed (start : ℕ) (s : List ℕ) (at : ℕ) : Type 0 where
  pub forward : at ≤ fold_from false start at (drop at s)
  pub inside : fold_from false start at (drop at s) ≤ length s
  pub folds : Folds (part at (fold_from false start at (drop at s)) s)

unfoldable Result : ℕ → List ℕ → ℕ → Type 0
Result start s at = (fold_from false start at (drop at s) ≡ start) ⊎ Passed start s at

-- it stops where it is
stops : (start : ℕ) (s : List ℕ) (at : ℕ) → at ≤ length s → fold_from false start at (drop at s) ≡ at → Result start s at
unfolding Result
stops start s at q e = inr (record { forward = omega arith; inside = omega arith; folds = no_folds s at _ e })

-- the last line has no LF
opens : (start : ℕ) (s : List ℕ) (at : ℕ) → at < length s → get_or s at 0 ≡ 32 → (lf : ℕ) → lf ≡ place_from 10 s (at + 1) → length s ≤ lf → Result start s at
unfolding Result
opens start s at h x lf k n = inl (fold_open start s at h x lf k n)

-- it passes a line
passes : (start : ℕ) (s : List ℕ) (at : ℕ) → at < length s → get_or s at 0 ≡ 32 → (lf : ℕ) → lf ≡ place_from 10 s (at + 1) → lf < length s
    → Result start s (lf + 1) → Result start s at
unfolding Result
passes start s at h x lf k y (inl e) = inl (fold_next start s at h x lf k y ∙ e)
passes start s at h x lf k y (inr w) =
    let e = fold_next start s at h x lf k y in
    let j = place-from 10 s (at + 1) in
    inr
    (record {
      forward = omega (arith, e, j, w.forward);
      inside = omega (arith, e, w.inside);
      folds =
          one_fold s at lf _ x k (omega (arith, e, w.forward)) (omega (arith, e, w.inside))
          (rw e w.folds);
    })

passed : (left start : ℕ) (s : List ℕ) (at : ℕ) → length s ≤ at + left → at ≤ length s → Result start s at
passed zero start s at p q = stops start s at q (fold_end_here start s at (omega arith))
passed (suc left) start s at p q = by_end (below at (length s)) (λ lf k. passed left start s (lf + 1) k)
  where
    by-lf : at < length s → get_or s at 0 ≡ 32 → ((lf : ℕ) → length s ≤ lf + 1 + left → lf + 1 ≤ length s → Result start s (lf + 1))
        → (lf : ℕ) → lf ≡ place_from 10 s (at + 1) → (lf < length s) ⊎ (length s ≤ lf) → Result start s at
    by-lf h x ih lf k (inl y) = passes start s at h x lf k y (ih lf (omega (arith, k, place-from 10 s (at + 1))) (omega arith))
    by-lf h x ih lf k (inr n) = opens start s at h x lf k n

    by_byte : at < length s → ((lf : ℕ) → length s ≤ lf + 1 + left → lf + 1 ≤ length s → Result start s (lf + 1))
        → (get_or s at 0 ≡ 32) ⊎ (get_or s at 0 ≡ 32 → ⊥) → Result start s at
    by_byte h ih (inl x) = by-lf h x ih (place_from 10 s (at + 1)) refl (below (place_from 10 s (at + 1)) (length s))
    by_byte h ih (inr n) = stops start s at q (fold_other start s at h n)

    by_end : (at < length s) ⊎ (length s ≤ at) → ((lf : ℕ) → length s ≤ lf + 1 + left → lf + 1 ≤ length s → Result start s (lf + 1)) → Result start s at
    by_end (inl h) ih = by_byte h ih (equal (get_or s at 0) 32)
    by_end (inr h) ih = stops start s at q (fold_end_here start s at h)

-- where lines fold a value they are lines that start with a space, one or more, and end within the bytes
pub folds_read : (s : List ℕ) (at : ℕ) → at ≤ length s → at < fold_end s at → Folds (part at (fold_end s at) s)
unfolding fold_end Result
folds_read s at q p = by (passed (length s) at s at (omega arith) q)
  where
    by : (fold_from false at at (drop at s) ≡ at) ⊎ Passed at s at → Folds (part at (fold_from false at at (drop at s)) s)
    by (inl e) = absurd (omega arith)
    by (inr w) = w.folds

pub folds_some : (t : List ℕ) (f : Folds t) → 0 < length t → 0 < length f.more
unfolding folded_lines
folds_some t f p = by f.more f.whole
  where
    by : (l : List (List ℕ)) → t ≡ folded_lines l → 0 < length l
    by [] e = absurd (omega (arith, ap length e))
    by (x ∷ xs) e = omega arith

-- ---- standing

-- inside a line it goes on to the line's LF
to_lf : (start at : ℕ) (l r : List ℕ) → free_of 10 l ≡ true → fold_from true start at (l ++ 10 ∷ r) ≡ fold_from false start (at + length l + 1) r
unfolding fold_from
to_lf start at [] r e = let z : at + 0 + 1 ≡ at + 1 = omega arith in rw z
to_lf start at (b ∷ l) r e =
    let x : eqb b 10 ≡ false = not-true (eqb b 10) (and_left (not (eqb b 10)) (free_of 10 l) e) in
    let z : at + 1 + length l + 1 ≡ at + suc (length l) + 1 = omega arith in
    rw x (to_lf start (at + 1) l r (and_right (not (eqb b 10)) (free_of 10 l) e) ∙ rw z)

-- lines that start with a space are passed, up to bytes that do not
pub folds_stand : (start at : ℕ) (ls : List (List ℕ)) (r : List ℕ) → OneLines ls → (get_or r 0 0 ≡ 32 → ⊥)
    → fold_from false start at (folded_lines ls ++ r) ≡ at + length (folded_lines ls)
unfolding fold_from folded_lines
folds_stand start at [] [] f n = omega arith
folds_stand start at [] (b ∷ r) f n = rw (ne_eqb b 32 n) (omega arith)
folds_stand start at (l ∷ ls) r f n =
    let t = folded_lines ls in
    let a : (l ++ 10 ∷ t) ++ r ≡ l ++ 10 ∷ (t ++ r) = append_assoc l (10 ∷ t) r in
    rw a
    (to_lf start (at + 1) l (t ++ r) f.0
    ∙ folds_stand start (at + 1 + length l + 1) ls r f.1 n
    ∙ omega (arith, length-append l (10 ∷ t)))
