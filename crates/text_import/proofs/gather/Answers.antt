-- `text_import::gather` meets its contract. Assumes nothing.
use native.Mathlib.Omega.{arith}
use Prim.Native.Nat.{◌-◌}
use Rattle.text_import.proofs.Walk.{gathering_start, gathering_end, gathering_full, gathering_bad, gathering_inside, gathering_turn, called}
use Rattle.text_import.proofs.gather.Goals as goal

pub loop-at-init : goal.loop-at-init
loop-at-init c = gathering_start _ _ _ _

pub shape_of-list-then-n-ge-MOST_RECORDS : goal.shape_of-list-then-n-ge-MOST_RECORDS
shape_of-list-then-n-ge-MOST_RECORDS c = c.loop-at.invariant.size

pub returns-then-n-ge-MOST_RECORDS : goal.returns-then-n-ge-MOST_RECORDS
returns-then-n-ge-MOST_RECORDS c =
    let r = (let loop = c.loop-at in
    let loop-test = c.loop-at-test in
    let if1 = c.if-n-ge-MOST_RECORDS in
    let halt = c.halt in
    called halt.ensures (gathering_full _ _ _ _ _ _ _ loop.invariant loop-test.true if1.true)) in
    record { value = r.0; list_after = r.1 }

pub shape_of-list-then-number-ne-DONE : goal.shape_of-list-then-number-ne-DONE
shape_of-list-then-number-ne-DONE c = c.loop-at.invariant.size

pub returns-then-number-ne-DONE : goal.returns-then-number-ne-DONE
returns-then-number-ne-DONE c =
    let r = (let loop = c.loop-at in
    let loop-test = c.loop-at-test in
    let if1 = c.if-n-ge-MOST_RECORDS in
    let record-number = c.record_number-number in
    let if2 = c.if-number-ne-DONE in
    let halt2 = c.halt-then-number-ne-DONE in
    called halt2.ensures (gathering_bad _ _ _ _ _ _ _ loop.invariant loop-test.true if1.false record-number.ensures if2.true)) in
    record { value = r.0; list_after = r.1 }

pub element-x-requires : goal.element-x-requires
element-x-requires c =
    let pre = c.requires in
    let loop-test = c.loop-at-test in
    omega (arith, loop-test.true, pre)

pub overflow_add-at : goal.overflow_add-at
overflow_add-at c =
    let pre = c.requires in
    let loop = c.loop-at in
    let loop-test = c.loop-at-test in
    let if1 = c.if-n-ge-MOST_RECORDS in
    let record-number = c.record_number-number in
    let if2 = c.if-number-ne-DONE in
    let name-end = c.name_end in
    omega (arith, gathering_inside _ _ _ _ _ _ _ loop.invariant loop-test.true if1.false record-number.ensures if2.false name-end.ensures, pre)

pub overflow_add-at-in-loop-at : goal.overflow_add-at-in-loop-at
overflow_add-at-in-loop-at c =
    let pre = c.requires in
    let loop = c.loop-at in
    let loop-test = c.loop-at-test in
    let if1 = c.if-n-ge-MOST_RECORDS in
    let record-number = c.record_number-number in
    let if2 = c.if-number-ne-DONE in
    let name-end = c.name_end in
    omega (arith, gathering_inside _ _ _ _ _ _ _ loop.invariant loop-test.true if1.false record-number.ensures if2.false name-end.ensures, pre)

pub loop-at-smaller : goal.loop-at-smaller
loop-at-smaller c = omega (arith, c.if-n-ge-MOST_RECORDS.false)

pub loop-at-preserved : goal.loop-at-preserved
loop-at-preserved c =
    let loop = c.loop-at in
    let loop-test = c.loop-at-test in
    let if1 = c.if-n-ge-MOST_RECORDS in
    let record-number = c.record_number-number in
    let if2 = c.if-number-ne-DONE in
    let element = c.element-x in
    let put-element = c.put_element in
    let name-end = c.name_end in
    gathering_turn _ _ _ _ _ _ _ loop.invariant loop-test.true if1.false record-number.ensures if2.false name-end.ensures element.ensures _
    put-element.ensures

pub shape_of-list : goal.shape_of-list
shape_of-list c = c.loop-at.invariant.size

pub returns : goal.returns
returns c =
    let r = gathering_end _ _ _ _ _ _ _ c.loop-at.invariant c.loop-at-test.false in
    record { value = r.0; list_after = r.1 }
