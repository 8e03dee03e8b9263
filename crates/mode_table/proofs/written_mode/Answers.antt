-- `mode_table::written_mode` meets its contract. The loop's invariant: the rows passed do not have the text. Assumes nothing.
use Prim.Native.Nat.{◌-◌}
use mathlib.Core.Path.{refl, sym, ◌∙◌}
use native.Mathlib.Omega.{arith}
use lib.Seq.{length-take-le}
use Rattle.mode_table.specs.Table.{written_mode}
use Rattle.mode_table.proofs.Laws.{find-here, find_more, find-end, row_fits}
use Rattle.mode_table.proofs.written_mode.Goals as goal

pub loop-i-init : goal.loop-i-init
unfolding written_mode
loop-i-init c = (omega arith, refl)

pub row_at-row-requires : goal.row_at-row-requires
row_at-row-requires c = omega arith

pub slice_bounds-bytes-end : goal.slice_bounds-bytes-end
slice_bounds-bytes-end c = row_fits _ _ c.row_at-row.ensures c.loop-i-test.true

pub slice_bounds-same_bytes-end : goal.slice_bounds-same_bytes-end
slice_bounds-same_bytes-end c =
    sym (length-take-le _ _ (row_fits _ _ c.row_at-row.ensures c.loop-i-test.true))

pub returns-then-same_bytes : goal.returns-then-same_bytes
returns-then-same_bytes c =
    let same_bytes = c.same_bytes in
    let if1 = c.if-same_bytes in
    sym (c.loop-i.invariant.1 ∙ find-here _ _ _ c.row_at-row.ensures c.loop-i-test.true (sym same_bytes.ensures ∙ if1.true))

pub overflow_add-i : goal.overflow_add-i
overflow_add-i c = omega arith

pub loop-i-smaller : goal.loop-i-smaller
loop-i-smaller c = omega arith

pub loop-i-preserved : goal.loop-i-preserved
loop-i-preserved c =
    let same_bytes = c.same_bytes in
    let if1 = c.if-same_bytes in
    (omega arith, c.loop-i.invariant.1 ∙ find_more _ _ _ c.row_at-row.ensures c.loop-i-test.true (sym same_bytes.ensures ∙ if1.false))

pub returns : goal.returns
returns c = sym (c.loop-i.invariant.1 ∙ find-end _ _ c.loop-i-test.false)
