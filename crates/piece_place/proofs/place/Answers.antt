-- `piece_place::place` meets its contract. Assumes nothing.
use native.Mathlib.Omega.{arith}
use lib.ListN.{length-take}
use Rattle.piece_place.proofs.Placing.{up_to, put_all, put_same, put_above, put-below}
use Rattle.piece_place.proofs.place.Goals as goal

pub slice_bounds-common_start-end-2 : goal.slice_bounds-common_start-end-2
slice_bounds-common_start-end-2 c = simp length-take (omega (arith, c.shorter-size.ensures))

pub slice_bounds-by_next-end-2 : goal.slice_bounds-by_next-end-2
slice_bounds-by_next-end-2 c = simp length-take (omega (arith, c.shorter-size.ensures))

pub returns-in-Less : goal.returns-in-Less
returns-in-Less c =
    let r = (let args = c.args in
    let shorter = c.shorter-size in
    let common-start = c.common_start-shared in
    let by_next = c.by_next in
    let enum_told = c.in-Less in
    let open_entry = c.open_entry-r in
    let put = c.put in
    put_all args.held.now args.ends.now args.last args.ended args.name.now args.folder shorter.result shorter.ensures
    (put-below args.held.now args.ends.now (up_to args.last shorter.result) args.ended args.name.now args.folder
    common-start.result common-start.ensures by_next.result by_next.ensures (omega (arith, shorter.ensures)) enum_told.is
    open_entry.result _ _ (c.open_entry-r.ensures.placed, c.open_entry-r.ensures.marks) put.ensures)) in
    record { placed = r.0; ends = r.1.0; held = r.1.1 }

pub returns-in-Equal : goal.returns-in-Equal
returns-in-Equal c =
    let x = c.args in
    let r =
    put_all x.held.now x.ends.now x.last x.ended x.name.now x.folder c.shorter-size.result c.shorter-size.ensures
    (put_same x.held.now x.ends.now (up_to x.last c.shorter-size.result) x.ended x.name.now x.folder
    c.common_start-shared.result c.common_start-shared.ensures c.by_next.result c.by_next.ensures c.in-Equal.is) in
    record { placed = r.0; ends = r.1.0; held = r.1.1 }

pub returns-in-Greater : goal.returns-in-Greater
returns-in-Greater c =
    let x = c.args in
    let r =
    put_all x.held.now x.ends.now x.last x.ended x.name.now x.folder c.shorter-size.result c.shorter-size.ensures
    (put_above x.held.now x.ends.now (up_to x.last c.shorter-size.result) x.ended x.name.now x.folder
    c.common_start-shared.result c.common_start-shared.ensures c.by_next.result c.by_next.ensures c.in-Greater.is) in
    record { placed = r.0; ends = r.1.0; held = r.1.1 }
