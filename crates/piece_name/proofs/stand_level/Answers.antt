-- `piece_name::stand_level` meets its contract. Assumes nothing.
use native.Mathlib.Omega.{arith}
use borrow.Author.Tests.{eq-eqb, ne_eqb}
use Rattle.piece_name.proofs.Names.{level_past, level_met, shares-within}
use Rattle.piece_name.proofs.stand_level.Goals as goal
use Rattle.piece_name.proofs.stand_level.Goals.{then-n-eq0, else-n-eq0}

pub returns-then-to-size : goal.returns-then-to-size
returns-then-to-size c =
    let x = c.args in
    level_past x.held.now x.last x.size x.shared x.some.now _ c.shorter-to.ensures _ c.if-to-size.true c.differs.ensures

pub overflow_add-shared : goal.overflow_add-shared
overflow_add-shared c =
    let x = c.args in
    omega (
      arith,
      shares-within x.held.now x.last x.size _ x.some.now _ c.shorter-to.ensures c.if-to-size.false c.common_start-n.ensures,
    )

pub overflow_add-size : goal.overflow_add-size
overflow_add-size c =
    let x = c.args in
    omega (
      arith,
      shares-within x.held.now x.last x.size _ x.some.now _ c.shorter-to.ensures c.if-to-size.false c.common_start-n.ensures,
    )

pub returns : goal.returns
returns c =
    let x = c.args in
    level_met x.held.now x.last x.size x.shared x.some.now _ c.shorter-to.ensures _ _ c.common_start-n.ensures _
    (elim c.if-n-eq0.branch [
      | then-n-eq0 w ↦ rw (eq-eqb _ 0 w.if-n-eq0.true) w.shared-is
      | else-n-eq0 w ↦ rw (ne_eqb _ 0 w.if-n-eq0.false) w.shared-is
    ])
    c.differs-2.ensures
