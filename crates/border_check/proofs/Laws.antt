-- What the proof of the start cites: what is stored is what the marks have that it came to. Assumes nothing.
use mathlib.Core.Path.{◌≡◌, ap, ◌∙◌}
use Prim.Native.Nat.{ℕ}
use mathlib.Core.List.{List}
use Rattle.arriving.specs.declared.Marks.{Marks}
use Rattle.piece_state.specs.State.{marks_numbers}

pub begun : {m n : Marks} {marks first : List ℕ} → m ≡ n → marks ≡ marks_numbers m → first ≡ m.head
    → (m.verdict.number ≡ n.verdict.number) × ((marks ≡ marks_numbers n) × (first ≡ n.head))
begun e p q = (ap (λ (m : Marks). m.verdict.number) e, (p ∙ ap marks_numbers e, q ∙ ap (λ (m : Marks). m.head) e))
