-- `record_slice::bisect_records` meets its contract. Assumes nothing.
use mathlib.Core.Path.{refl, ◌∙◌}
use native.Mathlib.Omega.{arith}
use Rattle.probe.proofs.Going.{going_start, going-inside, going_on, going_less, going-ends}
use Rattle.record_slice.proofs.bisect_records.Goals as goal

pub loop-p-init : goal.loop-p-init
loop-p-init c =
    let args = c.args in
    going_start args.object.now args.name.now (record { h = args.h; folder = args.folder }) args.records.now _ refl c.start-p.result c.start-p.ensures

pub offset_bounds-records-p : goal.offset_bounds-records-p
offset_bounds-records-p c =
    let args = c.args in
    let inside = going-inside args.object.now args.name.now (record { h = args.h; folder = args.folder }) args.records.now c.loop-p.p c.loop-p-test.true
    c.loop-p.invariant in
    omega (arith, inside, c.well_formed.1.1.0)

pub bounds-records-p : goal.bounds-records-p
bounds-records-p c =
    let args = c.args in
    going-inside args.object.now args.name.now (record { h = args.h; folder = args.folder }) args.records.now c.loop-p.p c.loop-p-test.true
    c.loop-p.invariant

pub loop-p-smaller : goal.loop-p-smaller
loop-p-smaller c =
    let args = c.args in
    going_less args.object.now args.name.now (record { h = args.h; folder = args.folder }) args.records.now c.loop-p.p c.loop-p-test.true c.loop-p.invariant _
    c.step-p.result c.step-p.ensures

pub loop-p-preserved : goal.loop-p-preserved
loop-p-preserved c =
    let args = c.args in
    going_on args.object.now args.name.now (record { h = args.h; folder = args.folder }) args.records.now c.loop-p.p c.loop-p-test.true c.loop-p.invariant _
    refl c.step-p.result c.step-p.ensures

pub returns : goal.returns
returns c =
    let args = c.args in
    c.answer.ensures
    ∙ going-ends args.object.now args.name.now (record { h = args.h; folder = args.folder }) args.records.now c.loop-p.p c.loop-p-test.false c.loop-p.invariant
