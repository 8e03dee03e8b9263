-- `sorting::sort_front` meets its contract. Assumes nothing.
use Prim.Native.Nat.{ℕ}
use mathlib.Core.List.{List, ◌++◌}
use mathlib.Core.Path.{sym, ap, ◌∙◌}
use native.Mathlib.Omega.{arith}
use lib.ListN.{drop}
use lib.Seq.{length-take-le}
use Rattle.keys.specs.Key.{key_at, below_by}
use Rattle.sorting.proofs.Sorted.{sort-whole}
use Rattle.sorting.proofs.sort_front.Goals as goal

pub returns-then-list-n : goal.returns-then-list-n
returns-then-list-n c =
    let args = c.args in
    let if1 = c.if-list-n in
    let sort = c.sort in
    sort.ensures ∙ sort-whole (below_by (key_at args.text.now args.mark args.width)) args.list.now args.n if1.true

pub slice_bounds-sort-end-2 : goal.slice_bounds-sort-end-2
slice_bounds-sort-end-2 c =
    let args = c.args in
    sym (length-take-le args.n args.list.now (omega arith))

pub returns : goal.returns
returns c =
    let args = c.args in
    ap (λ (l : List ℕ). l ++ drop args.n args.list.now) c.sort-2.ensures
