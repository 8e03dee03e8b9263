-- `lookup::searched` meets its contract: before each turn the answer is the search between low and high, and there is room in the count. Assumes nothing.
use Prim.Native.Nat.{◌-◌}
use mathlib.Core.Path.{sym, ◌∙◌}
use native.Mathlib.Omega.{arith}
use Rattle.ground.proofs.Laws.{gate_open}
use Rattle.entry.specs.Record.{records_of, name_of}
use Rattle.entry.proofs.Laws.{records-many, well_parts}
use Rattle.lookup.proofs.Laws.{search-end, search_bad, search_told, lookup_open}
use Rattle.lookup.proofs.searched.Goals as goal
use Rattle.std.specs.declared.cmp.Ordering.TheVariants.{Equal, Greater, Less}

pub loop-low-init : goal.loop-low-init
loop-low-init c =
    let args = c.args in
    let number = records-many args.records.now in
    let allowed = c.requires in
    (omega arith, omega (arith, number, (gate_open _ _ _ allowed).2), rw (sym number) (lookup_open _ _ _ _ _ allowed))

pub slice_bounds-name_order-count : goal.slice_bounds-name_order-count
slice_bounds-name_order-count c = omega (arith, well_parts _ _ _ (sym c.well_formed-in-loop-low.ensures ∙ c.if-not-well_formed.false))

pub slice_bounds-name_order-start : goal.slice_bounds-name_order-start
slice_bounds-name_order-start c = omega (arith, well_parts _ _ _ (sym c.well_formed-in-loop-low.ensures ∙ c.if-not-well_formed.false))

pub slice_bounds-name_order-end : goal.slice_bounds-name_order-end
slice_bounds-name_order-end c = omega (arith, well_parts _ _ _ (sym c.well_formed-in-loop-low.ensures ∙ c.if-not-well_formed.false))

pub loop-low-preserved-in-Less : goal.loop-low-preserved-in-Less
unfolding name_of
loop-low-preserved-in-Less c =
    let args = c.args in
    let loop = c.loop-low in
    let loop-test = c.loop-low-test in
    let record-at = c.record_at-e in
    let well-formed = c.well_formed-in-loop-low in
    let if1 = c.if-not-well_formed in
    let is-folder = c.is_folder-tree in
    let name-order = c.name_order in
    let enum_told = c.in-Less in
    let good = sym well-formed.ensures ∙ if1.false in
    let folder = is-folder.ensures in
    let ordered = name-order.ensures in
    let told = enum_told.is in
    let more = loop-test.true in (
      loop.invariant.0,
      omega (arith, loop.invariant.1),
      loop.invariant.2 ∙ search_told _ _ (records_of args.records.now) _ _ _ _ _ more _ record-at.ensures good Less
          folder ordered told,
    )

pub returns-in-Equal : goal.returns-in-Equal
unfolding name_of
returns-in-Equal c =
    let loop = c.loop-low in
    let record-at = c.record_at-e in
    let good = sym c.well_formed-in-loop-low.ensures ∙ c.if-not-well_formed.false in
    let folder = c.is_folder-tree.ensures in
    let ordered = c.name_order.ensures in
    let told = c.in-Equal.is in
    let args = c.args in
    let more = c.loop-low-test.true in
    sym (loop.invariant.2 ∙ search_told _ _ (records_of args.records.now) _ _ _ _ _ more _ record-at.ensures good Equal folder ordered told)

pub loop-low-preserved : goal.loop-low-preserved
unfolding name_of
loop-low-preserved c =
    let args = c.args in
    let loop = c.loop-low in
    let loop-test = c.loop-low-test in
    let record-at = c.record_at-e in
    let well-formed = c.well_formed-in-loop-low in
    let if1 = c.if-not-well_formed in
    let is-folder = c.is_folder-tree in
    let name-order = c.name_order in
    let enum-told3 = c.in-Greater in
    let good = sym well-formed.ensures ∙ if1.false in
    let folder = is-folder.ensures in
    let ordered = name-order.ensures in
    let told = enum-told3.is in
    let more = loop-test.true in (
      omega (arith, loop.invariant.0),
      omega (arith, loop.invariant.1),
      loop.invariant.2 ∙ search_told _ _ (records_of args.records.now) _ _ _ _ _ more _
          record-at.ensures good Greater folder ordered told,
    )

pub returns-then-not-well_formed : goal.returns-then-not-well_formed
returns-then-not-well_formed c =
    let loop = c.loop-low in
    let broken = sym c.well_formed-in-loop-low.ensures ∙ c.if-not-well_formed.true in
    sym (loop.invariant.2 ∙ search_bad _ _ (records_of c.args.records.now) _ _ _ _ _ c.loop-low-test.true _ c.record_at-e.ensures broken)

pub returns : goal.returns
returns c = sym (c.loop-low.invariant.2 ∙ search-end _ _ _ _ c.loop-low-test.false)
