-- What the proofs of the calls cite. Assumes nothing.
use Prim.Native.Nat.{ℕ}
use mathlib.Core.Path.{◌≡◌, refl, ap, ◌∙◌}
use mathlib.Core.Bool.{Bool, true, false}
use mathlib.Core.List.{List}
use mir.Val.{bool_byte}
use Rattle.ground.specs.declared.Answer.{Answer}
use Rattle.border.specs.Border.{yes, answer_numbers}

-- what is handed over of an answer is handed over of its definition, and beside it stands what the call left in a lent list
pub handed : {n : ℕ} {l : List ℕ} {a b : Answer} → (n ≡ a.verdict.number) × (l ≡ answer_numbers a) → a ≡ b
    → (n ≡ b.verdict.number) × (l ≡ answer_numbers b)
handed p e = (p.0 ∙ ap (λ x. x.verdict.number) e, p.1 ∙ ap answer_numbers e)

pub handed_with : {n : ℕ} {l : List ℕ} {a b : Answer} {L : Type 0} → (n ≡ a.verdict.number) × (l ≡ answer_numbers a) → a ≡ b → L
    → (n ≡ b.verdict.number) × ((l ≡ answer_numbers b) × L)
handed_with p e lent = (p.0 ∙ ap (λ x. x.verdict.number) e, (p.1 ∙ ap answer_numbers e, lent))

-- the cast of a flag makes 1 of yes and 0 of no
pub as_number : (t : Bool) → bool_byte t ≡ yes t
as_number true = refl
as_number false = refl

pub flag_number : {t s : Bool} → t ≡ s → bool_byte t ≡ yes s
flag_number {t} e = as_number t ∙ ap yes e
