-- A lent state stands for a check from the start on, and with every piece: nothing is lost between two calls. Assumes nothing.
use Prim.Native.Nat.{ℕ, ◌<◌}
use mathlib.Core.Path.{◌≡◌, refl, ap, sym, subst, ◌∙◌}
use mathlib.Core.Bool.{Bool, true, false}
use mathlib.Core.List.{List}
use lib.ListN.{get_or}
use lib.Dec.{eqb, ltb}
use borrow.Author.Tests.{ltb-true, eqb-false}
use native.Mathlib.Omega.{arith}
use Rattle.ground.specs.Basics.{pick}
use Rattle.arriving.specs.Feed.{together, start_of}
use Rattle.arriving.specs.declared.Check.{Check}
use Rattle.arriving.proofs.Steps.{feed_stopped}
use Rattle.piece_state.specs.State.{set_said, marks_numbers}
use Rattle.piece_state.proofs.Laws.{marks_back}
use Rattle.piece_state.proofs.Each.{rules_stay}
use Rattle.border_pieces.specs.Border.{state_of, fed_of, fed_numbers}

set-small : (n : ℕ) → set_said n < 65536
set-small n = go (ltb n 65536) refl
  where
    go : (b : Bool) → ltb n 65536 ≡ b → pick b n 0 < 65536
    go true e = ltb-true n 65536 e
    go false e = omega arith

-- the start
pub begun-is : (h k : ℕ) (held ends : List ℕ) → k < 65536
    → state_of held ends (marks_numbers (start_of h k)) (start_of h k).head ≡ together held ends (start_of h k)
unfolding start_of
begun-is h k held ends q = ap (together held ends) (marks_back (start_of h k) q)

-- a piece, whatever was lent
pub fed-is : (held ends marks first piece : List ℕ)
    → state_of (fed_of held ends marks first piece).held (fed_of held ends marks first piece).ends (fed_numbers held ends marks first piece)
    (fed_of held ends marks first piece).marks.head
    ≡ fed_of held ends marks first piece
fed-is held ends marks first piece = go (eqb (get_or marks 0 0) 0) refl
  where
    d : Check
    d = fed_of held ends marks first piece

    small : d.marks.rules < 65536
    small = subst (λ (n : ℕ). n < 65536) (sym (rules_stay (state_of held ends marks first) piece)) (set-small (get_or marks 4 0))

    go : (b : Bool) → eqb (get_or marks 0 0) 0 ≡ b → state_of d.held d.ends (pick b (marks_numbers d.marks) marks) d.marks.head ≡ d
    go true e = ap (together d.held d.ends) (marks_back d.marks small)
    go false e =
        let s : d ≡ state_of held ends marks first = feed_stopped (state_of held ends marks first) piece (eqb-false (get_or marks 0 0) 0 e) in
        ap (λ (c : Check). state_of c.held c.ends marks c.marks.head) s ∙ sym s
