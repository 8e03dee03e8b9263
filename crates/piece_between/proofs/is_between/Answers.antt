-- `piece_between::is_between` meets its contract. Assumes nothing.
use mathlib.Core.Bool.{Bool, true, false, ◌&&◌}
use mathlib.Core.Path.{◌≡◌, refl, sym, ◌∙◌}
use lib.Dec.{ltb}
use Rattle.piece_between.specs.Between.{is_next, is_fine, is_after, is_first, is_between}
use Rattle.piece_between.proofs.is_between.Goals as goal
use Rattle.piece_between.proofs.is_between.Goals.{then-is_next, else-is_next, then-is_fine, else-is_fine, then-is_after, else-is_after}

-- x is the first test, and v what the two tests come to
met : {x a b v : Bool} → x ≡ a → x ≡ true → v ≡ b → v ≡ (a && b)
met {a = a} p q r = let z : a ≡ true = sym p ∙ q in rw z r

missed : {x a v : Bool} (b : Bool) → x ≡ a → x ≡ false → v ≡ x → v ≡ (a && b)
missed {a = a} b p q r = let z : a ≡ false = sym p ∙ q in rw z (r ∙ q)

pub returns-then-is_first : goal.returns-then-is_first
unfolding is_between
returns-then-is_first c =
    let m = c.args.m in
    let fine : c.if-is_next.value ≡ (is_next m.phase && is_fine m.verdict) =
    elim c.if-is_next.branch [
      | then-is_next w ↦ met c.is_next.ensures w.if-is_next.true (w.value-is ∙ w.is_fine.ensures)
      | else-is_next w ↦ missed (is_fine m.verdict) c.is_next.ensures w.if-is_next.false w.value-is
    ] in
    let after : c.if-is_fine.value ≡ (is_next m.phase && is_fine m.verdict && is_after m.last) =
    elim c.if-is_fine.branch [
      | then-is_fine w ↦ met fine w.if-is_fine.true (w.value-is ∙ w.is_after.ensures)
      | else-is_fine w ↦ missed (is_after m.last) fine w.if-is_fine.false w.value-is
    ] in
    let first : c.if-is_after.value ≡ (is_next m.phase && is_fine m.verdict && is_after m.last && is_first m.at m.first c.args.left) =
    elim c.if-is_after.branch [
      | then-is_after w ↦ met after w.if-is_after.true (w.value-is ∙ w.is_first.ensures)
      | else-is_after w ↦ missed (is_first m.at m.first c.args.left) after w.if-is_after.false w.value-is
    ] in
    met first c.if-is_first.true refl

pub returns-else-is_first : goal.returns-else-is_first
unfolding is_between
returns-else-is_first c =
    let m = c.args.m in
    let fine : c.if-is_next.value ≡ (is_next m.phase && is_fine m.verdict) =
    elim c.if-is_next.branch [
      | then-is_next w ↦ met c.is_next.ensures w.if-is_next.true (w.value-is ∙ w.is_fine.ensures)
      | else-is_next w ↦ missed (is_fine m.verdict) c.is_next.ensures w.if-is_next.false w.value-is
    ] in
    let after : c.if-is_fine.value ≡ (is_next m.phase && is_fine m.verdict && is_after m.last) =
    elim c.if-is_fine.branch [
      | then-is_fine w ↦ met fine w.if-is_fine.true (w.value-is ∙ w.is_after.ensures)
      | else-is_fine w ↦ missed (is_after m.last) fine w.if-is_fine.false w.value-is
    ] in
    let first : c.if-is_after.value ≡ (is_next m.phase && is_fine m.verdict && is_after m.last && is_first m.at m.first c.args.left) =
    elim c.if-is_after.branch [
      | then-is_after w ↦ met after w.if-is_after.true (w.value-is ∙ w.is_first.ensures)
      | else-is_after w ↦ missed (is_first m.at m.first c.args.left) after w.if-is_after.false w.value-is
    ] in
    missed (ltb 8 m.h) first c.if-is_first.false refl
