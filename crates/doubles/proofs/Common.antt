-- What names share at their start, and with that the order. Assumes nothing.
use Prim.Native.Nat.{ℕ, zero, suc, ◌≤◌}
use native.Mathlib.Omega.{arith}
use mathlib.Core.Path.{◌≡◌, refl, sym, ap, ◌∙◌}
use mathlib.Core.Bool.{Bool, false}
use mathlib.Core.List.{List, [], ◌∷◌}
use mathlib.Core.Logic.{⊎_elim}
use lib.ListN.{length}
use Rattle.ground.specs.Scan.{common_start}
use Rattle.ground.proofs.Laws.{equal, common_same, common_differ}
use Rattle.order.specs.Order.{name_order, next}
use Rattle.order.proofs.Laws.{by-below, first_le, below_rest}
use Rattle.std.specs.declared.cmp.Ordering.TheVariants.{Less}

common_none : (a : List ℕ) → common_start a [] ≡ 0
unfolding common_start
common_none [] = refl
common_none (x ∷ a) = refl

pub common-self : (a : List ℕ) → common_start a a ≡ length a
unfolding common_start
common-self [] = refl
common-self (x ∷ a) = common_same x a x a refl ∙ ap suc (common-self a)

-- what the first shares with the second, and the second with the third, the first shares with the third
pub common_through : (k : ℕ) (a b c : List ℕ) → k ≤ common_start a b → k ≤ common_start b c → k ≤ common_start a c
unfolding common_start
common_through zero a b c h g = omega arith
common_through (suc k) [] b c h g = absurd (omega arith)
common_through (suc k) (x ∷ a) [] c h g = absurd (omega arith)
common_through (suc k) (x ∷ a) (y ∷ b) [] h g = absurd (omega arith)
common_through (suc k) (x ∷ a) (y ∷ b) (z ∷ c) h g =
    ⊎_elim
    (λ e. ⊎_elim
    (λ f. omega (arith, common_same x a z c (e ∙ f), common_through k a b c (omega (arith, common_same x a y b e)) (omega (arith, common_same y b z c f))))
    (λ n. absurd (omega (arith, common_differ y b z c n)))
    (equal y z))
    (λ n. absurd (omega (arith, common_differ x a y b n)))
    (equal x y)

pub common_turn : (a b : List ℕ) → common_start a b ≡ common_start b a
unfolding common_start
common_turn [] b = sym (common_none b)
common_turn (x ∷ a) [] = refl
common_turn (x ∷ a) (y ∷ b) =
    ⊎_elim (λ e. common_same x a y b e ∙ ap suc (common_turn a b) ∙ sym (common_same y b x a (sym e)))
    (λ n. common_differ x a y b n ∙ sym (common_differ y b x a (λ e. n (sym e))))
    (equal x y)

-- names of one length that share it are one name
pub common_whole : (a b : List ℕ) → length a ≡ length b → length a ≤ common_start a b → a ≡ b
unfolding common_start
common_whole [] [] e h = refl
common_whole [] (y ∷ b) e h = absurd (omega arith)
common_whole (x ∷ a) [] e h = absurd (omega arith)
common_whole (x ∷ a) (y ∷ b) e h =
    ⊎_elim (λ q. let r = common_whole a b (omega arith) (omega (arith, common_same x a y b q)) in cc)
    (λ n. absurd (omega (arith, common_differ x a y b n)))
    (equal x y)

-- what stands between a file and a later name that starts with the file's name starts with it too
pub common_between : (d c : List ℕ) (u : Bool) (l : List ℕ) (t : Bool) → name_order d false c u ≡ Less → name_order c u l t ≡ Less → length d ≤ common_start d l → length d ≤ common_start d c
unfolding common_start name_order next
common_between [] c u l t h k s = omega arith
common_between (x ∷ d) c u [] t h k s = absurd (omega arith)
common_between (x ∷ d) [] u (z ∷ l) t h k s =
    ⊎_elim (λ e. absurd (omega (arith, by-below h, by-below k))) (λ n. absurd (omega (arith, common_differ x d z l n))) (equal x z)
common_between (x ∷ d) (y ∷ c) u (z ∷ l) t h k s =
    ⊎_elim
    (λ e.
    let f : x ≡ y = omega (arith, first_le x d false y c u h, first_le y c u z l t k) in
    let g : y ≡ z = omega arith in
    omega (arith, common_same x d y c f, common_between d c u l t (below_rest x d false y c u f h) (below_rest y c u z l t g k) (omega (arith, common_same x d z l e))))
    (λ n. absurd (omega (arith, common_differ x d z l n)))
    (equal x z)
