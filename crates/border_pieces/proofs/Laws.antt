-- What the proof of the call cites: a lent state with a piece more, refused before or not. Assumes nothing.
use Prim.Native.Nat.{ℕ}
use mathlib.Core.Path.{◌≡◌, ap, sym, ◌∙◌}
use mathlib.Core.Bool.{Bool}
use mathlib.Core.List.{List}
use lib.ListN.{get_or}
use borrow.Author.Tests.{eq-eqb, ne_eqb}
use Rattle.ground.specs.Basics.{pick}
use Rattle.arriving.specs.Feed.{together, feed_of}
use Rattle.arriving.specs.declared.Marks.{Marks}
use Rattle.arriving.specs.declared.Check.{Check}
use Rattle.arriving.proofs.Steps.{feed_stopped}
use Rattle.piece_state.specs.State.{marks_numbers, marks_said}
use Rattle.border_pieces.specs.Border.{state_of, fed_of, fed_numbers}

-- what a piece makes of a lent state: the number, the name, the open names, the numbers and the first bytes
abbrev pub Fed : List ℕ → List ℕ → List ℕ → List ℕ → List ℕ → ℕ → List ℕ → List ℕ → List ℕ → List ℕ → Type 0
Fed held ends marks first piece number held' ends' marks' first' =
    let d = fed_of held ends marks first piece in
    (number ≡ d.marks.verdict.number)
    × ((held' ≡ d.held) × ((ends' ≡ d.ends) × ((marks' ≡ fed_numbers held ends marks first piece) × (first' ≡ d.marks.head))))

-- after a refusal everything stays
pub fed-refused : (held ends marks first piece : List ℕ) → (get_or marks 0 0 ≡ 0 → ⊥) → Fed held ends marks first piece (get_or marks 0 0) held ends marks first
fed-refused held ends marks first piece n =
    let e : state_of held ends marks first ≡ fed_of held ends marks first piece = sym (feed_stopped (state_of held ends marks first) piece n) in (
      ap (λ (c : Check). c.marks.verdict.number) e,
      (
        ap (λ (c : Check). c.held) e,
        (
          ap (λ (c : Check). c.ends) e,
          (
            sym (ap (λ (b : Bool). pick b (marks_numbers (fed_of held ends marks first piece).marks) marks) (ne_eqb (get_or marks 0 0) 0 n)),
            ap (λ (c : Check). c.marks.head) e,
          ),
        ),
      ),
    )

-- else the numbers are those of the marks that it came to
pub fed_on : (held ends marks first piece : List ℕ) {held' ends' marks' first' : List ℕ} {before m : Marks} → get_or marks 0 0 ≡ 0
    → before ≡ marks_said marks first → together held' ends' m ≡ feed_of (together held ends before) piece → marks' ≡ marks_numbers m → first' ≡ m.head
    → Fed held ends marks first piece m.verdict.number held' ends' marks' first'
fed_on held ends marks first piece {held'} {ends'} {before = before} {m = m} z b f p q =
    let e : together held' ends' m ≡ fed_of held ends marks first piece = f ∙ ap (λ (x : Marks). feed_of (together held ends x) piece) b in (
      ap (λ (c : Check). c.marks.verdict.number) e,
      (
        ap (λ (c : Check). c.held) e,
        (
          ap (λ (c : Check). c.ends) e,
          (
            p ∙ ap (λ (c : Check). marks_numbers c.marks) e
                ∙ sym (ap (λ (b : Bool). pick b (marks_numbers (fed_of held ends marks first piece).marks) marks) (eq-eqb (get_or marks 0 0) 0 z)),
            q ∙ ap (λ (c : Check). c.marks.head) e,
          ),
        ),
      ),
    )
