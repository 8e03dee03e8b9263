-- `neighbours::same_ids` meets its contract. Assumes nothing.
use native.Mathlib.Omega.{arith}
use mathlib.Core.Path.{refl, ◌∙◌}
use Rattle.neighbours.proofs.Laws.{short-part, same-both}
use Rattle.neighbours.proofs.same_ids.Goals as goal

pub slice_bounds-same_bytes-end-2 : goal.slice_bounds-same_bytes-end-2
slice_bounds-same_bytes-end-2 c = omega (arith, c.shorter-c.ensures, c.shorter-2.ensures)

pub returns : goal.returns
returns c =
    let shorter = c.shorter-a in
    let shorter2 = c.shorter-c in
    let shorter3 = c.shorter in
    let shorter4 = c.shorter-2 in
    let same_bytes = c.same_bytes in
    same_bytes.ensures ∙ same-both (short-part _ _ _ _ _ _ shorter.ensures shorter3.ensures refl)
    (short-part _ _ _ _ _ _ shorter2.ensures shorter4.ensures refl)
