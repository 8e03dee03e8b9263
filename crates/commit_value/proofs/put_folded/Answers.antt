-- `commit_value::put_folded` meets its contract. Assumes nothing.
use Rattle.std.proofs.Common.{◌+◌, [], ◌∷◌, refl, get_or, drop, arith}
use Rattle.commit_value.specs.Fold.{fold_value, fold_rest}
use Rattle.commit_value.proofs.Laws.{Left, left_all, left-next, left-none, fold_done, fold_last, fold_space, fold_on}
use Rattle.commit_value.proofs.put_folded.Goals as goal
use Rattle.commit_value.proofs.put_folded.Goals.{then-prev-eq10, else-prev-eq10}

pub loop-b-init : goal.loop-b-init
unfolding fold_value
loop-b-init c = record { place = omega arith; left = left_all _ _ _ }

pub loop-b-preserved : goal.loop-b-preserved
loop-b-preserved c =
    let l = c.loop-b in
    let a = c.args in
    let at = c.loop-b-test.true in
    let j = c.if-prev-eq10 in
    let k = l.invariant.left in
    let b = get_or a.v.now l.b-index 0 in
    let rest = fold_rest b (drop (l.b-index + 1) a.v.now) in
    let spaced : Left a.out.now a.at (fold_value a.v.now) j.out j.to (b ∷ rest) =
    elim j.branch [
      | then-prev-eq10 w ↦ rw (w.out-is, w.to-is) (left-next (32 ∷ []) _ _ _ k (fold_space l.prev a.v.now l.b-index at w.if-prev-eq10.true) w.put_byte.ensures refl)
      | else-prev-eq10 w ↦ rw (w.out-is, w.to-is) (left-next [] _ _ _ k (fold_on l.prev a.v.now l.b-index at w.if-prev-eq10.false) refl (omega arith))
    ] in
    record {
      place = elim j.branch [ then-prev-eq10 w ↦ omega (arith, l.invariant.place) | else-prev-eq10 w ↦ omega (arith, l.invariant.place) ];
      left = left-next (b ∷ []) rest _ _ spaced refl c.put_byte-in-loop-b.ensures refl;
    }

pub returns-then-prev-ne10 : goal.returns-then-prev-ne10
returns-then-prev-ne10 c =
    let l = c.loop-b in
    let k = fold_last l.prev c.args.v.now l.b-index c.loop-b-test.false c.if-prev-ne10.true in
    let r = left-none (left-next (10 ∷ []) [] _ _ l.invariant.left k c.put_byte-then-prev-ne10.ensures refl) refl in
    record { value = r.0; out_after = r.1 }

pub returns-else-prev-ne10 : goal.returns-else-prev-ne10
returns-else-prev-ne10 c =
    let l = c.loop-b in
    let r = left-none l.invariant.left (fold_done l.prev c.args.v.now l.b-index c.loop-b-test.false c.if-prev-ne10.false) in
    record { value = r.0; out_after = r.1 }
