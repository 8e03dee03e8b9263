-- What the proof of the seven questions cites. Assumes nothing.
use Prim.Native.Nat.{ℕ}
use mathlib.Core.Path.{◌≡◌}
use mathlib.Core.List.{[], ◌∷◌}

-- two lists of seven numbers, each the same as its fellow
pub seven : {a b c d e f g i j k l m n o : ℕ} → a ≡ i → b ≡ j → c ≡ k → d ≡ l → e ≡ m → f ≡ n → g ≡ o
    → a ∷ b ∷ c ∷ d ∷ e ∷ f ∷ g ∷ [] ≡ i ∷ j ∷ k ∷ l ∷ m ∷ n ∷ o ∷ []
seven p q r s t u v = cc
