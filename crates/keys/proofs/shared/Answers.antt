-- `keys::shared` meets its contract. Assumes nothing.
use Prim.Native.Nat.{◌+◌, ◌-◌}
use mathlib.Core.Path.{◌≡◌}
use native.Mathlib.Omega.{arith}
use lib.ListN.{drop}
use Rattle.keys.proofs.Alike.{alike_from, alike_within, alike_nul, alike_wide}
use Rattle.keys.proofs.shared.Goals as goal

pub overflow_add-a-then-width-eq0 : goal.overflow_add-a-then-width-eq0
overflow_add-a-then-width-eq0 c =
    let args = c.args in
    omega (arith, c.well_formed, alike_within args.text.now args.a args.b _ _ c.common_start-n.ensures c.requires.0)

pub slice_bounds-count_to-end : goal.slice_bounds-count_to-end
slice_bounds-count_to-end c =
    let args = c.args in
    alike_within args.text.now args.a args.b _ _ c.common_start-n.ensures c.requires.0

pub returns-then-width-eq0 : goal.returns-then-width-eq0
returns-then-width-eq0 c =
    let args = c.args in
    let text = args.text.now in
    let n = alike_from text args.a args.b _ _ c.common_start-n.ensures in
    let k : args.a + c.common_start-n.result - args.a ≡ c.common_start-n.result = omega arith in
    let w = alike_nul args.width (drop args.a text) (drop args.b text) _ n c.if-width-eq0.true _ (rw k at c.count_to.ensures) in
    record { agree = w.shared; left = w.left; right = w.right }

pub returns : goal.returns
returns c =
    let args = c.args in
    let text = args.text.now in
    let n = alike_from text args.a args.b _ _ c.common_start-n.ensures in
    let w = alike_wide args.width (drop args.a text) (drop args.b text) _ n c.if-width-eq0.false _ (omega (arith, c.min.ensures)) in
    record { agree = w.shared; left = w.left; right = w.right }
