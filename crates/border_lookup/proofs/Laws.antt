-- What the proofs of the calls cite. Assumes nothing.
use Prim.Native.Nat.{ℕ}
use mathlib.Core.Path.{◌≡◌, refl, ap, ◌∙◌}
use mathlib.Core.List.{List}
use mir.Syntax.{w8}
use mir.Val.{to_z, of_z}
use Rattle.order.specs.Order.{order_number}
use Rattle.lookup.specs.declared.Looked.{Looked}
use Rattle.border_lookup.specs.Border.{looked_numbers}
use Rattle.std.specs.declared.cmp.Ordering.{Ordering}
use Rattle.std.specs.declared.cmp.Ordering.TheVariants.{Equal, Greater, Less}

-- the answer of a comparison fits eight bits
pub order_fits : (o : Ordering) → to_z w8 (of_z w8 (order_number o)) ≡ order_number o
unfolding order_number
order_fits Less = refl
order_fits Equal = refl
order_fits Greater = refl

-- what is handed over of a lookup is handed over of its definition
pub looked-handed : {n : ℕ} {l : List ℕ} {a b : Looked} → (n ≡ a.verdict.number) × (l ≡ looked_numbers a) → a ≡ b
    → (n ≡ b.verdict.number) × (l ≡ looked_numbers b)
looked-handed p e = (p.0 ∙ ap (λ x. x.verdict.number) e, p.1 ∙ ap looked_numbers e)
