-- `tree_write::fill` meets its contract. Assumes nothing.
use Rattle.tree_write.proofs.Laws.{step, written_next, written-end}
use Rattle.entry.proofs.Laws.{well_parts}
use native.Mathlib.Nat.{le_trans}
use native.Mathlib.Omega.{arith}
use mathlib.Core.Path.{refl, sym, ◌∙◌}
use Prim.Native.Nat.{◌-◌}
use Rattle.tree_write.proofs.fill.Goals as goal

pub loop-i-init : goal.loop-i-init
loop-i-init c = (omega arith, refl, refl, refl, refl)

pub write_entry-at-requires : goal.write_entry-at-requires
write_entry-at-requires c =
    let loop-test = c.loop-i-test in
    let loop = c.loop-i in
    let s = step _ _ _ _ _ _ loop-test.true c.entry_at.ensures _ loop.invariant.3 c.requires.records_value in
    record { mode_bound = well_parts _ _ _ s.0; e_in_bounds = rw loop.invariant.2 (le_trans s.1 c.requires.records_in_bounds) }

pub loop-i-preserved : goal.loop-i-preserved
loop-i-preserved c =
    let write-entry = c.write_entry-at in
    let loop-test = c.loop-i-test in
    let l = c.loop-i in
    let s = step _ _ _ _ _ _ loop-test.true c.entry_at.ensures _ l.invariant.3 c.requires.records_value in
    let p = write-entry.ensures.value in
    let q = write-entry.ensures.out_after in (
      omega arith,
      refl,
      write-entry.auto.out ∙ l.invariant.2,
      rw p s.2,
      l.invariant.4 ∙ written_next _ _ _ l.i l.at _ loop-test.true
          c.entry_at.ensures l.out s.0 ∙ rw (p, q),
    )

pub shape_of-out : goal.shape_of-out
shape_of-out c = c.loop-i.invariant.2

pub returns : goal.returns
returns c =
    let args = c.args in
    let l = c.loop-i in
    sym (l.invariant.4 ∙ written-end _ _ args.records.now l.i l.at l.out c.loop-i-test.false)
