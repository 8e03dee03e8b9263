-- `listing_text::list_into` meets its contract. Assumes nothing.
use native.Mathlib.Omega.{arith}
use mathlib.Core.Path.{sym}
use Prim.Native.Nat.{◌*◌}
use Rattle.ground.proofs.Laws.{id-is, id_small}
use Rattle.entry.specs.Record.{width}
use Rattle.listing_text.specs.Code.{room}
use Rattle.listing_text.proofs.Room.{read_all, front_count, front_most, told-refused, told_all}
use Rattle.listing_text.proofs.list_into.Goals as goal

pub returns-then-number-ne-DONE : goal.returns-then-number-ne-DONE
returns-then-number-ne-DONE c =
    let r = (let a = c.args in
    let p = c.requires in
    let t = c.read_tree-a in
    let e = c.add_refusal-len.ensures in
    told-refused a.h p.0 a.object.now a.records.now _ _ t.result _ p.1 p.2 t.ensures.answer c.if-number-ne-DONE.true e) in
    record { listed = r.0; out = r.1 }

pub overflow_mul-all : goal.overflow_mul-all
overflow_mul-all c =
    let a = c.args in
    let p = c.requires in
    let t = c.read_tree-a in
    let n = (read_all a.h p.0 a.object.now a.records.now t.result p.1 p.2 t.ensures.answer c.if-number-ne-DONE.false).2 in
    omega (arith, n)

pub slice_bounds-add_lines-end : goal.slice_bounds-add_lines-end
slice_bounds-add_lines-end c =
    let a = c.args in
    let p = c.requires in
    let t = c.read_tree-a in
    let n = (read_all a.h p.0 a.object.now a.records.now t.result p.1 p.2 t.ensures.answer c.if-number-ne-DONE.false).2 in
    omega (arith, n, t.auto.records, p.2)

pub slice_bounds-add_lines-end-2 : goal.slice_bounds-add_lines-end-2
slice_bounds-add_lines-end-2 c =
    let a = c.args in
    let p = c.requires in
    let t = c.read_tree-a in
    let n = (read_all a.h p.0 a.object.now a.records.now t.result p.1 p.2 t.ensures.answer c.if-number-ne-DONE.false).2 in
    sym (front_count (t.result.count * width) t.ensures.records (omega (arith, n, t.auto.records, p.2)))

pub add_lines-len-requires : goal.add_lines-len-requires
add_lines-len-requires c =
    let a = c.args in
    let p = c.requires in
    let t = c.read_tree-a in
    let n = (read_all a.h p.0 a.object.now a.records.now t.result p.1 p.2 t.ensures.answer c.if-number-ne-DONE.false).2 in (
      omega (arith, c.add_head-at.ensures.1),
      (id_small a.h (id-is a.h p.0)).1,
      p.1,
      front_most (t.result.count * width) (room * width)
          t.ensures.records (omega (arith, n)),
    )

pub returns : goal.returns
returns c =
    let r = (let a = c.args in
    let p = c.requires in
    let t = c.read_tree-a in
    let h = c.add_head-at.ensures.0 in
    let e = c.add_lines-len.ensures in
    let z = c.if-number-ne-DONE.false in
    told_all a.h p.0 a.object.now a.records.now _ _ _ _ t.result _ _ p.1 p.2 t.ensures.answer t.ensures.records z h e) in
    record { listed = r.0; out = r.1 }
