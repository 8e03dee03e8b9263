-- One walk and then another. Assumes nothing.
use Prim.Native.Nat.{ℕ, ◌+◌, ◌<◌, ◌≤◌}
use mathlib.Core.Bool.{Bool, true, false}
use mathlib.Core.Path.{◌≡◌, refl, ap, sym, ◌∙◌}
use mathlib.Core.List.{[], ◌∷◌, ◌++◌}
use native.Mathlib.Omega.{arith}
use native.Mathlib.Nat.{add-zero}
use borrow.Author.Tests.{eq-eqb, ne_eqb, eqb-true, lt-ltb, le-ltb}
use lib.Dec.{eqb, ltb}
use lib.ListN.{length}
use Rattle.ground.specs.Basics.{pick}
use Rattle.ground.specs.Verdict.{verdict, fine, most_records}
use Rattle.item.specs.Items.{Item}
use Rattle.walk.specs.Walk.{Out, refused_by, nothing, Done, put, and_then}

module _ (n : ℕ) (o : Out) (go : ℕ → Out) where
  pub then_is : Done o → and_then n o go ≡ record { items = o.items ++ (go (n + length o.items)).items; verdict = (go (n + length o.items)).verdict }
  unfolding and_then
  then_is h = rw (eq-eqb _ _ h)

  pub then-stop : (Done o → ⊥) → and_then n o go ≡ o
  unfolding and_then
  then-stop h = rw (ne_eqb _ _ h)

  pub then-first : Done (and_then n o go) → Done o
  unfolding and_then
  then-first = cases (eqb o.verdict.number 0) refl
    where
      cases : (t : Bool) → eqb o.verdict.number 0 ≡ t
          → (pick t (record { items = o.items ++ (go (n + length o.items)).items; verdict = (go (n + length o.items)).verdict }) o).verdict.number ≡ 0 → Done o
      cases true e h = eqb-true o.verdict.number 0 e
      cases false e h = h

  pub then-second : Done (and_then n o go) → Done (go (n + length o.items))
  then-second h = ap (λ (x : Out). x.verdict.number) (sym (then_is (then-first h))) ∙ h

pub put_is : (n : ℕ) (x : Item) → n < most_records → put n x ≡ record { items = x ∷ []; verdict = fine }
unfolding put
put_is n x h = rw (lt-ltb _ _ h)

pub put_full : (n : ℕ) (x : Item) → most_records ≤ n → put n x ≡ refused_by (verdict 2 0)
unfolding put
put_full n x h = rw (le-ltb _ _ h)

pub put-done : (n : ℕ) (x : Item) → Done (put n x) → put n x ≡ record { items = x ∷ []; verdict = fine }
unfolding put
put-done n x = cases (ltb n most_records)
  where
    cases : (t : Bool) → Done (pick t (record { items = x ∷ []; verdict = fine }) (refused_by (verdict 2 0)))
        → pick t (record { items = x ∷ []; verdict = fine }) (refused_by (verdict 2 0)) ≡ record { items = x ∷ []; verdict = fine }
    cases true h = refl
    cases false h = absurd (omega arith)

pub then-none : (n : ℕ) (go : ℕ → Out) → and_then n nothing go ≡ go n
unfolding and_then
then-none n go = rw add-zero

pub then_same : (n : ℕ) (o o' : Out) (go go' : ℕ → Out) → o ≡ o' → ((m : ℕ) → go m ≡ go' m) → and_then n o go ≡ and_then n o' go'
unfolding and_then
then_same n o o' go go' e f = rw (e, f (n + length o'.items))
