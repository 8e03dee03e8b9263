-- `piece_ends::head_part` meets its contract. Assumes nothing.
use mathlib.Core.Path.{ap, sym, ◌∙◌}
use native.Mathlib.Omega.{arith}
use mathlib.Core.List.{List}
use Prim.Native.Nat.{ℕ}
use lib.ListN.{take}
use lib.Seq.{length-take-le}
use Rattle.mode.specs.Read.{read_mode}
use Rattle.arriving.specs.Feed.{head_part}
use Rattle.arriving.proofs.Laws.{part-bad, part_nul, part-id, head-cut}
use Rattle.piece_ends.proofs.head_part.Goals as goal

pub slice_bounds-extract_at-end : goal.slice_bounds-extract_at-end
slice_bounds-extract_at-end c = sym (length-take-le _ _ (omega (arith, c.shorter-n.ensures)))

pub slice_bounds-find_nul-end : goal.slice_bounds-find_nul-end
slice_bounds-find_nul-end c = sym (length-take-le _ _ (omega (arith, c.shorter-n.ensures)))

pub returns-then-n-end : goal.returns-then-n-end
returns-then-n-end c =
    let args = c.args in
    let shorter = c.shorter-n in
    let extract-at = c.extract_at in
    let mode-at = c.in-Some in
    let find-nul = c.find_nul-end in
    let if1 = c.if-n-end in
    part_nul (take shorter.result args.head) _ _ _ (sym extract-at.ensures ∙ mode-at.is) find-nul.ensures
    (omega (arith, if1.true, length-take-le shorter.result args.head (omega (arith, shorter.ensures)))) ∙ ap (λ (b : List ℕ). head_part b (read_mode b))
    (head-cut args.head args.k _ (omega arith) shorter.ensures)

pub returns-in-None : goal.returns-in-None
returns-in-None c =
    let args = c.args in
    let shorter = c.shorter-n in
    let extract-at = c.extract_at in
    let enum_told = c.in-None in
    part-bad _ (sym extract-at.ensures ∙ enum_told.is) ∙ ap (λ (b : List ℕ). head_part b (read_mode b))
    (head-cut args.head args.k _ (omega arith) shorter.ensures)

pub returns-else-n-end : goal.returns-else-n-end
returns-else-n-end c =
    let args = c.args in
    let shorter = c.shorter-n in
    let extract-at = c.extract_at in
    let mode-at = c.in-Some in
    let find-nul = c.find_nul-end in
    let if1 = c.if-n-end in
    part-id (take shorter.result args.head) _ _ _ (sym extract-at.ensures ∙ mode-at.is) find-nul.ensures
    (λ z. omega (arith, if1.false, length-take-le shorter.result args.head (omega (arith, shorter.ensures)))) ∙ ap
    (λ (b : List ℕ). head_part b (read_mode b)) (head-cut args.head args.k _ (omega arith) shorter.ensures)
