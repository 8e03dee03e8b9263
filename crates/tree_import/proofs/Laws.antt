-- An import after another that left the bytes lent as they were. Assumes nothing.
use Prim.Native.Nat.{ℕ}
use mathlib.Core.Path.{◌≡◌, subst}
use mathlib.Core.List.{List}
use Rattle.ground.specs.declared.Answer.{Answer}
use Rattle.text_import.proofs.Whole.{Both}

pub both-after : (k h : ℕ) (s : List ℕ) {o out : List ℕ} → o ≡ out → (r : Answer) (after : List ℕ) → Both k h s o r after → Both k h s out r after
both-after k h s e r after b = subst (λ (l : List ℕ). Both k h s l r after) e b
